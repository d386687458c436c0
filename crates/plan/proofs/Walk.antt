-- The walk of a group, over the states' bytes: what is done so far and then the group of what is left is the whole group.
-- No lane stands here, so the code at every width goes by these laws.
use mathlib.Core.Path.{◌≡◌, refl, sym, ap, ◌∙◌}
use mathlib.Core.Bool.{Bool, true, false, ◌||◌}
use mathlib.Core.List.{[], ◌∷◌, ◌++◌, append_assoc}
use mathlib.Core.Logic.{◌⊎◌, inl, inr}
use Prim.Native.Nat.{ℕ, zero, suc, ◌+◌, ◌-◌, ◌%◌, ◌≤◌, ◌<◌, min}
use native.Mathlib.Nat.{le_antisymm}
use native.Mathlib.Omega.{arith}
use borrow.Author.Tests.{ltb-true, ltb-false}
use lib.Dec.{ltb}
use lib.ListN.{length, take, drop, length-drop}
use lib.Seq.{length-take-le, drop-drop}
use Rattle.slices.proofs.Bools.{never}
use Rattle.slices.proofs.Parts.{take_back, drop_back, length_back}
use Rattle.motorist.specs.Instance.{Instance, Sound, solo, text_rate, full_rate}
use Rattle.motorist.specs.Piston.{Bytes, mask, plain, block}
use Rattle.motorist.specs.Engine.{Ride, group, inject_start, text_fit, meta_fit}
use Rattle.motorist.specs.Shape.{Fit}
use Rattle.motorist.proofs.Plans.{deal_fits, inject_le, behind}
use Rattle.motorist.proofs.OnePiston.{group_last, group_more}
use Rattle.motorist.proofs.Xors.{length-xors}
use Rattle.plan.specs.Cut.{from_by, cut_by, Fits, stepped, eom_at}
use Rattle.plan.specs.declared.Cut.{Cut}

-- ---- the test of the loop
goes_on_lem : (x t y m : ℕ) → (ltb x t || ltb y m) ≡ true → (x < t) ⊎ (y < m)
goes_on_lem x t y m h = go (ltb x t) (ltb y m) refl refl h
  where
    go : (p q : Bool) → ltb x t ≡ p → ltb y m ≡ q → (p || q) ≡ true → (x < t) ⊎ (y < m)
    go true q hp hq e = inl (ltb-true x t hp)
    go false true hp hq e = inr (ltb-true y m hq)
    go false false hp hq e = never (sym e)

stops : (x t y m : ℕ) → (ltb x t || ltb y m) ≡ false → (t ≤ x) × (m ≤ y)
stops x t y m h = go (ltb x t) (ltb y m) refl refl h
  where
    go : (p q : Bool) → ltb x t ≡ p → ltb y m ≡ q → (p || q) ≡ false → (t ≤ x) × (m ≤ y)
    go true q hp hq e = never e
    go false true hp hq e = never e
    go false false hp hq e = (ltb-false x t hp, ltb-false y m hq)

-- ---- a cut has room in a block
start_is : (i : Instance) (n : ℕ) → from_by (text_rate i) n ≡ inject_start i n
start_is i zero = refl
start_is i (suc n) = refl

lane_is : (w rs n : ℕ) → 0 % w ≡ 0 → rs % w ≡ 0 → from_by rs n % w ≡ 0
lane_is w rs zero z h = z
lane_is w rs (suc n) z h = h

taken : (x y t : ℕ) → x ≤ t → (x ≤ x + min y (t - x)) × (x + min y (t - x) ≤ t) × (x + min y (t - x) - x ≡ min y (t - x))
taken x y t h = (omega arith, omega arith, omega arith)

module _ (b c lane : ℕ) (ok : Sound (solo b lane c)) (w : ℕ) where
  abbrev one : Instance
  one = solo b lane c

  abbrev pub next : (at x t y m : ℕ) → Cut
  next at x t y m = cut_by (text_rate one) (full_rate one) at x t y m

  pub fits : (at x t y m d : ℕ) → at < text_rate one → x ≤ t → y ≤ m → t ≤ d → at % w ≡ 0 → 0 % w ≡ 0 → text_rate one % w ≡ 0 → Fits one w t m d (next at x t y m)
  fits at x t y m d ha hx hy hd la lz lr =
      let a = taken x (text_rate one - at) t hx in
      let f : ℕ = from_by (text_rate one) (t - x) in
      let z = taken y (full_rate one - f) m hy in
      let s : f ≡ inject_start one (t - x) = start_is one (t - x) in
      let g : Fit one at (min (text_rate one - at) (t - x)) f (min (full_rate one - f) (m - y)) = rw s (deal_fits one ok (inject_start one (t - x)) at (t - x) (m - y) ha (inject_le one ok (t - x)) (behind one (t - x))) in
      record {
        text_order = a.0;
        in_text = a.1;
        in_out = omega (arith, a.1);
        meta_order = z.0;
        in_meta = z.1;
        text_inside = rw a.2 g.text_room;
        text_fits_lem = rw a.2 g.text_fits;
        meta_inside = rw z.2 g.meta_fits;
        text_lane = la;
        meta_lane = lane_is w (text_rate one) (t - x) lz lr;
      }

  -- a block that leaves something takes something
  takes_some : (at t m X F Y : ℕ) → at < text_rate one → X ≡ text_fit one at t → F ≡ inject_start one t → Y ≡ meta_fit one F m → (X < t) ⊎ (Y < m) → 0 < X + Y
  takes_some at zero m X F Y ha e_x e_f e_y (inl h) = absurd (omega arith)
  takes_some at zero m X F Y ha e_x e_f e_y (inr h) = omega (arith, ok.tag_fits, ok.text_fits)
  takes_some at (suc t) m X F Y ha e_x e_f e_y h = omega arith

  -- ---- one block, and what follows it
  module _ (f : Bytes → Bytes) (decrypt : Bool) where
    module _ (s : Bytes) (at : ℕ) (ha : at < text_rate one) (t m : Bytes) (e X F Y : ℕ)
        (e_x : X ≡ text_fit one at (length t)) (e_f : F ≡ inject_start one (length t)) (e_y : Y ≡ meta_fit one F (length m)) where
      block_more : (X < length t) ⊎ (Y < length m)
          → group one f decrypt (s ∷ []) at t m (e ∷ [])
          ≡ (let r : Ride = group one f decrypt (stepped one f decrypt s at (take X t) F (take Y m) 0 ∷ []) 0 (drop X t) (drop Y m) (e ∷ []) in
          record { output = mask s at (take X t) ++ r.output; blocks = (block one at (plain decrypt s at (take X t)) F (take Y m) 0 ∷ []) ∷ r.blocks; states = r.states })
      block_more h = rw (e_y, e_x, e_f) (group_more b lane c f ok decrypt s at t m e ha (rw (e_y, e_x, e_f) at h))

      block_last : length t ≤ X → length m ≤ Y
          → group one f decrypt (s ∷ []) at t m (e ∷ [])
          ≡ record { output = mask s at (take X t); blocks = (block one at (plain decrypt s at (take X t)) F (take Y m) e ∷ []) ∷ []; states = stepped one f decrypt s at (take X t) F (take Y m) e ∷ [] }
      block_last h g = rw (e_y, e_x, e_f) (group_last b lane c f ok decrypt s at t m e ha (rw e_x at h) (rw (e_y, e_f) at g))

    -- ---- the walk of the text t and the metadata m from the state s₀ on, the text from at₀ on, that ends with e; the output held d₀
    module _ (s₀ : Bytes) (at₀ : ℕ) (t m : Bytes) (e : ℕ) (d₀ : Bytes) where
      abbrev pub whole : Ride
      whole = group one f decrypt (s₀ ∷ []) at₀ t m (e ∷ [])

      -- the group of what is left behind x bytes of the text and y of the metadata
      abbrev pub left : Bytes → ℕ → ℕ → ℕ → Ride
      left s at x y = group one f decrypt (s ∷ []) at (drop x t) (drop y m) (e ∷ [])

      -- n blocks are done, the state is s and the output holds d; k is the next
      pub record Walked (s d : Bytes) (n : ℕ) (k : Cut) : Type 0 where
        pub low : k.at.0 < text_rate one
        pub is : k ≡ next k.at.0 k.text.0 (length t) k.meta.0 (length m)
        pub room : Fits one w (length t) (length m) (length d) k
        pub few : n ≤ k.text.0 + k.meta.0
        pub long : length d ≡ length d₀
        pub tail : drop k.text.0 d ≡ drop k.text.0 d₀
        pub states : (left s k.at.0 k.text.0 k.meta.0).states ≡ whole.states
        pub output : take k.text.0 d ++ (left s k.at.0 k.text.0 k.meta.0).output ≡ whole.output
        pub count : n + length (left s k.at.0 k.text.0 k.meta.0).blocks ≡ length whole.blocks

      -- all n blocks are done, the state is s and the output holds d
      pub record Done (s d : Bytes) (n : ℕ) : Type 0 where
        pub few : n ≤ length t + length m + 1
        pub long : length d ≡ length d₀
        pub states : s ∷ [] ≡ whole.states
        pub output : d ≡ whole.output ++ drop (length t) d₀
        pub count : n ≡ length whole.blocks

      -- the walk is under way, or at its end
      pub record Stage (more : Bool) (s d : Bytes) (n : ℕ) (k : Cut) : Type 0 where
        pub going : more ≡ true → Walked s d n k
        pub done : more ≡ false → Done s d n

      module _ (lz : 0 % w ≡ 0) (lr : text_rate one % w ≡ 0) (out : length t ≤ length d₀) where
        pub stage_none : at₀ < text_rate one → at₀ % w ≡ 0 → Stage true s₀ d₀ 0 (next at₀ 0 (length t) 0 (length m))
        stage_none ha la =
            record {
              going = λ h. record {
                low = ha;
                is = refl;
                room = fits at₀ 0 (length t) 0 (length m) (length d₀) ha (omega arith) (omega arith) out la lz lr;
                few = omega arith;
                long = refl;
                tail = refl;
                states = refl;
                output = refl;
                count = omega arith;
              };
              done = λ h. never h;
            }

-- ---- one block more of a walk
-- so many blocks may still be to do, of t bytes of text and m of metadata
abbrev pub ahead : (t m : ℕ) → Bool → Cut → ℕ
ahead t m true k = suc ((t + m) - (k.text.0 + k.meta.0))
ahead t m false k = 0

module _ {b c lane : ℕ} {ok : Sound (solo b lane c)} {w : ℕ} {f : Bytes → Bytes} {decrypt : Bool}
    {s₀ : Bytes} {at₀ : ℕ} {t m : Bytes} {e : ℕ} {d₀ s d : Bytes} {n : ℕ} {k : Cut}
    (walked : Walked b c lane ok w f decrypt s₀ at₀ t m e d₀ s d n k) where
  abbrev here : Instance
  here = solo b lane c

  abbrev after : Cut
  after = next b c lane ok w 0 k.textend.0 (length t) k.metaend.0 (length m)

  -- what the block takes, by the instance's rules
  abbrev X : ℕ
  X = k.textend.0 - k.text.0

  abbrev Y : ℕ
  Y = k.metaend.0 - k.meta.0

  text_is : X ≡ text_fit here k.at.0 (length (drop k.text.0 t))
  text_is =
      let r = walked.room in
      let q : k.textend.0 ≡ k.text.0 + min (text_rate here - k.at.0) (length t - k.text.0) = ap (λ (z : Cut). z.textend.0) walked.is in
      rw length-drop (omega (arith, q))

  from_is : k.from.0 ≡ inject_start here (length (drop k.text.0 t))
  from_is = rw length-drop (ap (λ (z : Cut). z.from.0) walked.is ∙ start_is here (length t - k.text.0))

  meta_is : Y ≡ meta_fit here k.from.0 (length (drop k.meta.0 m))
  meta_is =
      let q : k.metaend.0 ≡ k.meta.0 + min (full_rate here - from_by (text_rate here) (length t - k.text.0)) (length m - k.meta.0) = ap (λ (z : Cut). z.metaend.0) walked.is in
      let g : k.from.0 ≡ from_by (text_rate here) (length t - k.text.0) = ap (λ (z : Cut). z.from.0) walked.is in
      rw (length-drop, g) (omega (arith, q))

  end : (a z : ℕ) → a ≤ z → a + (z - a) ≡ z
  end a z h = omega arith

  -- the bytes ys came back in the place of the block's stretch of the output
  module _ (ys : Bytes) (ey : ys ≡ mask s k.at.0 (take X (drop k.text.0 t))) where
    ys_length : length ys ≡ X
    ys_length =
        let r = walked.room in
        ap length ey ∙ length-xors (take X (drop k.text.0 t)) (drop k.at.0 s) ∙ length-take-le X (drop k.text.0 t) (rw length-drop (omega (arith, r.in_text)))

    in_d : k.text.0 + X ≤ length d
    in_d = let r = walked.room in omega (arith, r.text_order, r.in_out)

    abbrev pub back : Bytes
    back = take k.text.0 d ++ (ys ++ drop X (drop k.text.0 d))

    back_take : take k.textend.0 back ≡ take k.text.0 d ++ ys
    back_take = rw (end k.text.0 k.textend.0 walked.room.text_order) at (take_back d k.text.0 X ys in_d ys_length)

    back_drop : drop k.textend.0 back ≡ drop k.textend.0 d
    back_drop = rw (end k.text.0 k.textend.0 walked.room.text_order) at (drop_back d k.text.0 X ys in_d ys_length)

    tail_drop : drop k.textend.0 d ≡ drop k.textend.0 d₀
    tail_drop =
        let q : k.text.0 + X ≡ k.textend.0 = end k.text.0 k.textend.0 walked.room.text_order in
        rw q at (sym (drop-drop X k.text.0 d) ∙ ap (drop X) walked.tail ∙ drop-drop X k.text.0 d₀)

    drop_end : (l : Bytes) (a z : ℕ) → a ≤ z → drop (z - a) (drop a l) ≡ drop z l
    drop_end l a z h = rw (drop-drop (z - a) a l, end a z h) refl

    -- what the block leaves
    more_left : (k.textend.0 < length t) ⊎ (k.metaend.0 < length m) → (X < length (drop k.text.0 t)) ⊎ (Y < length (drop k.meta.0 m))
    more_left (inl h) = inl (rw length-drop (omega (arith, walked.room.text_order)))
    more_left (inr h) = inr (rw length-drop (omega (arith, walked.room.meta_order)))

    grows : (k.textend.0 < length t) ⊎ (k.metaend.0 < length m) → 0 < X + Y
    grows h = takes_some b c lane ok w k.at.0 (length (drop k.text.0 t)) (length (drop k.meta.0 m)) X k.from.0 Y walked.low text_is from_is meta_is (more_left h)

    -- so the walk ends
    walked_less : (k.textend.0 < length t) ⊎ (k.metaend.0 < length m)
        → (length t + length m) - (k.textend.0 + k.metaend.0) < (length t + length m) - (k.text.0 + k.meta.0)
    walked_less h = let r = walked.room in omega (arith, grows h, r.in_text, r.in_meta, r.text_order, r.meta_order)

    module _ (lz : 0 % w ≡ 0) (lr : text_rate here % w ≡ 0) (out : length t ≤ length d₀) where
      -- one more block, and not the last
      walked_more : (s' : Bytes) → (k.textend.0 < length t) ⊎ (k.metaend.0 < length m)
          → s' ≡ stepped here f decrypt s k.at.0 (take X (drop k.text.0 t)) k.from.0 (take Y (drop k.meta.0 m)) 0
          → Walked b c lane ok w f decrypt s₀ at₀ t m e d₀ s' back (n + 1) after
      walked_more s' h es =
          let r = walked.room in
          let g = block_more b c lane ok w f decrypt s k.at.0 walked.low (drop k.text.0 t) (drop k.meta.0 m) e X k.from.0 Y text_is from_is meta_is (more_left h) in
          let g' = rw (← es, ← ey, drop_end t k.text.0 k.textend.0 r.text_order, drop_end m k.meta.0 k.metaend.0 r.meta_order) at g in
          let long : length back ≡ length d₀ = length_back d k.text.0 X ys in_d ys_length ∙ walked.long in
          record {
            low = omega (arith, walked.low);
            is = refl;
            room = fits b c lane ok w 0 k.textend.0 (length t) k.metaend.0 (length m) (length back) (omega (arith, walked.low)) r.in_text r.in_meta (rw long out) lz lz lr;
            few = omega (arith, walked.few, grows h, r.text_order, r.meta_order);
            long = long;
            tail = back_drop ∙ tail_drop;
            states = sym (ap (λ (z : Ride). z.states) g') ∙ walked.states;
            output = rw (back_take, append_assoc) (ap (λ (z : Ride). take k.text.0 d ++ z.output) (sym g') ∙ walked.output);
            count = omega (arith, ap (λ (z : Ride). length z.blocks) g', walked.count);
          }

      -- the last
      walked_last : (s' : Bytes) → (length t ≤ k.textend.0) × (length m ≤ k.metaend.0)
          → s' ≡ stepped here f decrypt s k.at.0 (take X (drop k.text.0 t)) k.from.0 (take Y (drop k.meta.0 m)) e
          → Done b c lane ok w f decrypt s₀ at₀ t m e d₀ s' back (n + 1)
      walked_last s' h es =
          let r = walked.room in
          let all : k.textend.0 ≡ length t = le_antisymm r.in_text h.0 in
          let g = block_last b c lane ok w f decrypt s k.at.0 walked.low (drop k.text.0 t) (drop k.meta.0 m) e X k.from.0 Y text_is from_is meta_is
          (rw length-drop (omega (arith, h.0, r.text_order))) (rw length-drop (omega (arith, h.1, r.meta_order))) in
          let g' = rw (← es, ← ey) at g in
          let o : take k.text.0 d ++ ys ≡ (group here f decrypt (s₀ ∷ []) at₀ t m (e ∷ [])).output = ap (λ (z : Ride). take k.text.0 d ++ z.output) (sym g') ∙ walked.output in
          let q : back ≡ (take k.text.0 d ++ ys) ++ drop k.textend.0 d = rw (drop_end d k.text.0 k.textend.0 r.text_order, append_assoc) refl in
          record {
            few = omega (arith, walked.few, r.text_order, r.in_text, r.meta_order, r.in_meta);
            long = length_back d k.text.0 X ys in_d ys_length ∙ walked.long;
            states = sym (ap (λ (z : Ride). z.states) g') ∙ walked.states;
            output = q ∙ rw (o, tail_drop, all) refl;
            count = omega (arith, ap (λ (z : Ride). length z.blocks) g', walked.count);
          }

      -- one more block, the last or not: the walk goes on where the test of the loop says so
      abbrev test : Bool
      test = ltb k.textend.0 (length t) || ltb k.metaend.0 (length m)

      pub stage_next : (s' : Bytes) (more : Bool) → more ≡ test
          → s' ≡ stepped here f decrypt s k.at.0 (take X (drop k.text.0 t)) k.from.0 (take Y (drop k.meta.0 m)) (eom_at more e)
          → Stage b c lane ok w f decrypt s₀ at₀ t m e d₀ more s' back (n + 1) after
      stage_next s' true h es =
          record {
            going = λ g. walked_more s' (goes_on_lem k.textend.0 (length t) k.metaend.0 (length m) (sym h)) es;
            done = λ g. never g;
          }
      stage_next s' false h es =
          record {
            going = λ g. never (sym g);
            done = λ g. walked_last s' (stops k.textend.0 (length t) k.metaend.0 (length m) (sym h)) es;
          }

      -- and fewer blocks are ahead
      pub fewer_ahead : (more : Bool) → more ≡ test → ahead (length t) (length m) more after < ahead (length t) (length m) true k
      fewer_ahead true h = omega (arith, walked_less (goes_on_lem k.textend.0 (length t) k.metaend.0 (length m) (sym h)))
      fewer_ahead false h = omega arith
