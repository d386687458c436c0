-- The shape of every block of a session: b/8 bytes below 256, text never beyond the text rate, metadata never beyond the full rate,
-- the offset bytes as 01 lists them, and zeros elsewhere; for a permutation that keeps states, and inputs of bytes.
use Prim.Native.Nat.{ℕ, zero, suc, ◌+◌, ◌-◌, ◌^◌, ◌≤◌, ◌<◌, min}
use mathlib.Core.Path.{◌≡◌, refl, sym, ap, ◌∙◌, subst}
use mathlib.Core.Bool.{Bool, true, false}
use mathlib.Core.Logic.{inl, inr}
use mathlib.Core.List.{List, [], ◌∷◌, ◌++◌, map}
use native.Mathlib.Omega.{arith}
use native.Mathlib.Nat.{min-zero, add-suc}
use lib.ListN.{length, take, drop, replicate, length-append, length-take, length-drop, length-replicate, length-map}
use Rattle.motorist.specs.Instance.{Instance, Sound, pistons, state_length, text_rate, full_rate, chain_length, pack_length, tag_len}
use Rattle.motorist.specs.Piston.{Bytes, crypt_end, eom, block, xors, plain, crypt_end_of}
use Rattle.motorist.specs.Engine.{States, Blocks, first_piston, Round, text_after, meta_after, goes_on, inject_start, text_fit, meta_fit, deal, round, Ride, fill, absorbs, run, ride, group, each}
use Rattle.motorist.specs.Motorist.{Start, Message, taken, ends, chains, chain, fresh, key_pack, suv, diversify, knots, inject, knot, start, message}
use Rattle.motorist.specs.Session.{Step, step, steps, session_blocks}
use Rattle.motorist.specs.Shape.{Fit, Each, State, Keeps, Eom, Shaped, ShapedRound, SmallStart, SmallMessage}
use Rattle.motorist.proofs.Plans.{eom_chain, alone_fits, taken_fits, goes_on_length, text_after_length, meta_after_length, Behind, behind, behind_less, inject_le, deal_fit, Planned, last, more, planned, Injected, final, further, injected}
use Rattle.motorist.proofs.Front.{block-length, block_small}
use Rattle.motorist.proofs.Blocks.{crypt_end_back}
use Rattle.motorist.proofs.Xors.{length-xors}
use Rattle.endian.specs.Small.{Small}
use Rattle.endian.proofs.Small.{small_nil, small_cons, small_append, small_zeros, small_take, small_drop}
use Rattle.motorist.proofs.Small.{each_append, each_replicate, small_pad, small_xors, small_plain}

-- n states, and blocks that are all shaped
pub record Well (i : Instance) (n : ℕ) (bs : List Blocks) (ss : States) : Type 0 where
  pub blocks : Each (ShapedRound i) bs
  pub states : Each (State i) ss
  pub many : length ss ≡ n

small_text_after : (r : Round) (t : Bytes) → Small t → Small (text_after r t)
small_text_after [] t h = h
small_text_after (p ∷ ps) t h = small_text_after ps (drop p.text t) (small_drop p.text t h)

small_meta_after : (r : Round) (m : Bytes) → Small m → Small (meta_after r m)
small_meta_after [] m h = h
small_meta_after (p ∷ ps) m h = small_meta_after ps (drop p.meta m) (small_drop p.meta m h)

module _ (i : Instance) (ok : Sound i) where
  eom_small : (e : ℕ) → Eom i e → e < 2 ^ 8
  eom_small e (inl h) = omega arith
  eom_small e (inr (inl h)) = omega (arith, ok.chain_fits, ok.text_fits, ok.offsets_small)
  eom_small e (inr (inr (inl h))) = omega arith
  eom_small e (inr (inr (inr h))) = omega arith

  block_shaped : (at : ℕ) (t : Bytes) (from : ℕ) (m : Bytes) (e : ℕ) → Fit i at (length t) from (length m) → Small t → Small m → Eom i e → Shaped i from (block i at t from m e)
  block_shaped at t from m e fit ht hm he =
      record {
        at = at;
        text = t;
        meta = m;
        eom = e;
        is = refl;
        fit = fit;
        end = he;
        long = block-length i ok at t from m e fit;
        small = block_small i ok at t from m e fit ht hm (eom_small e he);
      }

  -- ---- states
  first_small : (ss : States) → Each (State i) ss → Small (first_piston ss)
  first_small [] h = small_nil
  first_small (s ∷ ss) h = h.0.small

  others : (ss : States) → Each (State i) ss → Each (State i) (drop 1 ss)
  others [] h = h
  others (s ∷ ss) h = h.1

  -- ---- a round
  deal_shaped : (decrypt : Bool) (from at t m : ℕ) (es : List ℕ) (ss : States) (text meta : Bytes) → at < text_rate i → from ≤ full_rate i → Behind i from t
      → length text ≡ t → length meta ≡ m → Small text → Small meta → Each (Eom i) es → Each (State i) ss
      → Each (Shaped i from) (fill i decrypt (deal i from at t m es) ss text meta)
  deal_shaped decrypt from at t m [] ss text meta ha hf hb ht hm st sm he hs = tt
  deal_shaped decrypt from at t m (e ∷ es) ss text meta ha hf hb ht hm st sm he hs =
      let a : ℕ = text_fit i at t in
      let b : ℕ = meta_fit i from m in
      let x : Bytes = plain decrypt (first_piston ss) at (take a text) in (
        block_shaped at x from (take b meta) e (deal_fit i ok decrypt (first_piston ss) from at t m text meta ha hf hb ht hm).fit
            (small_plain decrypt (first_piston ss) at (take a text) (first_small ss hs) (small_take a text st)) (small_take b meta sm) he.0,
        deal_shaped decrypt from 0 (t - a) (m - b) es (drop 1 ss) (drop a text) (drop b meta) (omega (arith, ok.tag_fits)) hf (behind_less i from t a hb)
            (rw (length-drop, ht)) (rw (length-drop, hm)) (small_drop a text st) (small_drop b meta sm) he.1 (others ss hs),
      )

  -- the first block has text if there is any
  start_some : (at x : ℕ) → 0 < x → inject_start i (crypt_end at x) ≡ text_rate i
  start_some at zero h = absurd (omega arith)
  start_some at (suc x) h = rw add-suc

  same_start : (at t : ℕ) → at < text_rate i → inject_start i (crypt_end at (text_fit i at t)) ≡ inject_start i t
  same_start at zero h = rw min-zero
  same_start at (suc t) h = start_some at (text_fit i at (suc t)) (omega arith)

  round_shaped : (decrypt : Bool) (at t m e : ℕ) (es : List ℕ) (ss : States) (text meta : Bytes) → at < text_rate i → length text ≡ t → length meta ≡ m
      → Small text → Small meta → Each (Eom i) (e ∷ es) → Each (State i) ss → ShapedRound i (fill i decrypt (round i at t m (e ∷ es)) ss text meta)
  unfolding round
  round_shaped decrypt at t m e es ss text meta ha ht hm st sm he hs =
      let from : ℕ = inject_start i t in
      let a : ℕ = text_fit i at t in
      let b : ℕ = meta_fit i from m in
      let x : Bytes = plain decrypt (first_piston ss) at (take a text) in
      let d = deal_fit i ok decrypt (first_piston ss) from at t m text meta ha (inject_le i ok t) (behind i t) ht hm in
      let c : crypt_end_of i (block i at x from (take b meta) e) ≡ crypt_end at a = crypt_end_back i ok at x from (take b meta) e d.fit ∙ rw d.text in
      subst (λ (k : ℕ). Each (Shaped i k) (fill i decrypt (round i at t m (e ∷ es)) ss text meta)) (sym (ap (inject_start i) c ∙ same_start at t ha))
      (deal_shaped decrypt from at t m (e ∷ es) ss text meta ha (inject_le i ok t) (behind i t) ht hm st sm he hs)

  goes_eoms : (es : List ℕ) → Each (Eom i) (goes_on es)
  goes_eoms [] = tt
  goes_eoms (e ∷ es) = (inl refl, goes_eoms es)

  length-fill : (decrypt : Bool) (r : Round) (ss : States) (t m : Bytes) → length (fill i decrypt r ss t m) ≡ length r
  length-fill decrypt [] ss t m = refl
  length-fill decrypt (p ∷ ps) ss t m = ap suc (length-fill decrypt ps (drop 1 ss) (drop p.text t) (drop p.meta m))

  length-deal : (from at t m : ℕ) (es : List ℕ) → length (deal i from at t m es) ≡ length es
  length-deal from at t m [] = refl
  length-deal from at t m (e ∷ es) = ap suc (length-deal from 0 (t - text_fit i at t) (m - meta_fit i from m) es)

  length-round : (decrypt : Bool) (at t m : ℕ) (es : List ℕ) (ss : States) (text meta : Bytes) → length (fill i decrypt (round i at t m es) ss text meta) ≡ length es
  unfolding round
  length-round decrypt at t m es ss text meta = length-fill decrypt (round i at t m es) ss text meta ∙ length-deal (inject_start i t) at t m es

  -- ---- strings injected collectively, all of the length l
  abbrev Alike : ℕ → List Bytes → Type 0
  Alike l ms = Each (λ (m : Bytes). (length m ≡ l) × Small m) ms

  each_shaped : (l : ℕ) (ms : List Bytes) (es : List ℕ) → l ≤ full_rate i → Alike l ms → Each (Eom i) es → Each (Shaped i 0) (each i ms es)
  each_shaped l [] es h hm he = tt
  each_shaped l (m ∷ ms) [] h hm he = tt
  each_shaped l (m ∷ ms) (e ∷ es) h hm he =
      (block_shaped 0 [] 0 m e (alone_fits i (length m) (rw hm.0.0 h)) small_nil hm.0.1 he.0, each_shaped l ms es h hm.1 he.1)

  each-round : (l : ℕ) (m : Bytes) (ms : List Bytes) (e : ℕ) (es : List ℕ) → l ≤ full_rate i → Alike l (m ∷ ms) → Each (Eom i) (e ∷ es) → ShapedRound i (each i (m ∷ ms) (e ∷ es))
  each-round l m ms e es h hm he =
      subst (λ (k : ℕ). Each (Shaped i k) (each i (m ∷ ms) (e ∷ es)))
      (sym (ap (inject_start i) (crypt_end_back i ok 0 [] 0 m e (alone_fits i (length m) (rw hm.0.0 h))))) (each_shaped l (m ∷ ms) (e ∷ es) h hm he)

  length-each : (ms : List Bytes) (es : List ℕ) → length ms ≡ length es → length (each i ms es) ≡ length es
  length-each [] es h = h
  length-each (m ∷ ms) [] h = absurd (omega arith)
  length-each (m ∷ ms) (e ∷ es) h = ap suc (length-each ms es (omega arith))

  take_alike : (l n : ℕ) (ms : List Bytes) → Alike l ms → Alike (min n l) (map (take n) ms)
  take_alike l n [] h = tt
  take_alike l n (m ∷ ms) h = ((length-take n m ∙ rw h.0.0, small_take n m h.0.1), take_alike l n ms h.1)

  drop_alike : (l n : ℕ) (ms : List Bytes) → Alike l ms → Alike (l - n) (map (drop n) ms)
  drop_alike l n [] h = tt
  drop_alike l n (m ∷ ms) h = ((length-drop n m ∙ rw h.0.0, small_drop n m h.0.1), drop_alike l n ms h.1)

  -- ---- EOMs and chaining values
  ends_eoms : (b : Bool) → Each (Eom i) (ends i b)
  ends_eoms true = (inr (inr (inl refl)), each_replicate (Eom i) i.others 255 (inr (inr (inr refl))))
  ends_eoms false = (inr (inr (inr refl)), each_replicate (Eom i) i.others 255 (inr (inr (inr refl))))

  chains_eoms : Each (Eom i) (chains i)
  chains_eoms = each_replicate (Eom i) (pistons i) (eom (chain_length i)) (inr (inl (eom_chain i ok)))

  chain_small : (ss : States) → Each (State i) ss → Small (chain i ss)
  chain_small [] h = small_nil
  chain_small (s ∷ ss) h = small_append (take (chain_length i) s) (chain i ss) (small_take (chain_length i) s h.0.small) (chain_small ss h.1)

  -- ---- what goes in at a start
  suv_small : (a : Start) → SmallStart a → Small (suv i a)
  suv_small a h =
      let l : ℕ = pack_length i in
      small_append (key_pack l a.key) a.nonce
      (small_pad l (l ∷ a.key ++ (1 ∷ [])) (small_append (l ∷ a.key) (1 ∷ []) (small_cons l a.key ok.pack_small h.key) (small_cons 1 [] (omega arith) small_nil))) h.nonce

  diversify_alike : (n j : ℕ) (m : Bytes) → j + n < 2 ^ 8 → Small m → Alike (length m + 2) (diversify i n j m)
  diversify_alike zero j m h hm = tt
  diversify_alike (suc n) j m h hm = (
    (length-append m (pistons i ∷ j ∷ []), small_append m (pistons i ∷ j ∷ []) hm (small_cons (pistons i) (j ∷ []) ok.pistons_small (small_cons j [] (omega arith) small_nil))),
    diversify_alike n (suc j) m (omega arith) hm,
  )

  length-diversify : (n j : ℕ) (m : Bytes) → length (diversify i n j m) ≡ n
  length-diversify zero j m = refl
  length-diversify (suc n) j m = ap suc (length-diversify n (suc j) m)

  -- ---- the states after
  module _ (f : Bytes → Bytes) (keeps : Keeps i f) where
    absorbs_states : (from : ℕ) (ss : States) (bs : Blocks) → length bs ≤ length ss → Each (State i) ss → Each (Shaped i from) bs → Each (State i) (absorbs i f ss bs)
    absorbs_states from ss [] h hs hb = tt
    absorbs_states from [] (b ∷ bs) h hs hb = absurd (omega arith)
    absorbs_states from (s ∷ ss) (b ∷ bs) h hs hb = (
      keeps (xors s b) (record { long = length-xors s b ∙ hs.0.long; small = small_xors s b hs.0.small hb.0.small }),
      absorbs_states from ss bs (omega arith) hs.1 hb.1,
    )

    absorbs-length : (ss : States) (bs : Blocks) → length (absorbs i f ss bs) ≡ length bs
    absorbs-length ss [] = refl
    absorbs-length ss (b ∷ bs) = ap suc (absorbs-length (drop 1 ss) bs)

    -- one round more in front
    well_round : (n : ℕ) (ss : States) (bs : Blocks) (rest : List Blocks) (after : States) → ShapedRound i bs → length bs ≡ n → Each (State i) ss → length ss ≡ n
        → ((Each (State i) (absorbs i f ss bs)) → length (absorbs i f ss bs) ≡ n → Well i n rest after) → Well i n (bs ∷ rest) after
    well_round n ss bs rest after hb lb hs ls next =
        let w = next (absorbs_states _ ss bs (omega arith) hs hb) (absorbs-length ss bs ∙ lb) in
        record { blocks = (hb, w.blocks); states = w.states; many = w.many }

    ride_well : (decrypt : Bool) {e : ℕ} {es : List ℕ} {at t m : ℕ} {rs : List Round} → Planned i (e ∷ es) at t m rs → (ss : States) (text meta : Bytes)
        → length text ≡ t → length meta ≡ m → Small text → Small meta → Each (Eom i) (e ∷ es) → Each (State i) ss → length ss ≡ suc (length es)
        → (let x : Ride = ride i f decrypt rs ss text meta in Well i (suc (length es)) x.blocks x.states)
    ride_well decrypt {e} {es = es} (last {at = at} {t = t} {m = m} h p q) ss text meta ht hm st sm he hs ls =
        well_round (suc (length es)) ss (fill i decrypt (round i at t m (e ∷ es)) ss text meta) [] _ (round_shaped decrypt at t m e es ss text meta h ht hm st sm he hs)
        (length-round decrypt at t m (e ∷ es) ss text meta) hs ls (λ x y. record { blocks = tt; states = x; many = y })
    ride_well decrypt {e} {es = es} (more {at = at} {t = t} {m = m} h g ps) ss text meta ht hm st sm he hs ls =
        let r : Round = round i at t m (0 ∷ goes_on es) in
        well_round (suc (length es)) ss (fill i decrypt r ss text meta) _ _ (round_shaped decrypt at t m 0 (goes_on es) ss text meta h ht hm st sm (goes_eoms (e ∷ es)) hs)
        (length-round decrypt at t m (0 ∷ goes_on es) ss text meta ∙ ap suc (goes_on_length es)) hs ls
        (λ x y. ride_well decrypt ps (absorbs i f ss (fill i decrypt r ss text meta)) (text_after r text) (meta_after r meta)
        (text_after_length r text ∙ rw ht) (meta_after_length r meta ∙ rw hm) (small_text_after r text st) (small_meta_after r meta sm) he x y)

    injected_well : {e : ℕ} {es : List ℕ} {m : Bytes} {ms : List Bytes} {bs : List Blocks} → Injected i (e ∷ es) m ms bs → (l : ℕ) (ss : States) → Alike l (m ∷ ms)
        → length ms ≡ length es → Each (Eom i) (e ∷ es) → Each (State i) ss → length ss ≡ suc (length es) → Well i (suc (length es)) bs (run i f ss bs)
    injected_well {e} {es} (final {m = m} {ms = ms} h) l ss hm lm he hs ls =
        well_round (suc (length es)) ss (each i (m ∷ ms) (e ∷ es)) [] _ (each-round l m ms e es (rw hm.0.0 at h) hm he) (length-each (m ∷ ms) (e ∷ es) (ap suc lm)) hs ls
        (λ x y. record { blocks = tt; states = x; many = y })
    injected_well {e} {es} (further {m = m} {ms = ms} {bs = bs} h ps) l ss hm lm he hs ls =
        let r : ℕ = full_rate i in
        well_round (suc (length es)) ss (each i (take r m ∷ map (take r) ms) (0 ∷ goes_on es)) bs _
        (each-round (min r l) (take r m) (map (take r) ms) 0 (goes_on es) (omega arith) (take_alike l r (m ∷ ms) hm) (goes_eoms (e ∷ es)))
        (length-each (take r m ∷ map (take r) ms) (0 ∷ goes_on es) (ap suc (length-map ms (take r) ∙ lm ∙ sym (goes_on_length es))) ∙ ap suc (goes_on_length es)) hs ls
        (λ x y. injected_well ps (l - r) _ (drop_alike l r (m ∷ ms) hm) (length-map ms (drop r) ∙ lm) he x y)

    -- ---- knots
    well_append : (n : ℕ) (bs cs : List Blocks) (ss ts : States) → Well i n bs ss → Well i n cs ts → Well i n (bs ++ cs) ts
    well_append n bs cs ss ts v w = record { blocks = each_append (ShapedRound i) bs cs v.blocks w.blocks; states = w.states; many = w.many }

    -- a group of the instance's Pistons
    abbrev Grouped : (List ℕ → Ride) → Type 0
    Grouped g = (e : ℕ) (es : List ℕ) → length es ≡ i.others → Each (Eom i) (e ∷ es) → Well i (pistons i) (g (e ∷ es)).blocks (g (e ∷ es)).states

    inject_well : (l : ℕ) (m : Bytes) (ms : List Bytes) (ss : States) → length ms ≡ i.others → Alike l (m ∷ ms) → Each (State i) ss → length ss ≡ pistons i → Grouped (inject i f ss (m ∷ ms))
    inject_well l m ms ss lm hm hs ls e es le he =
        let w = injected_well (injected i ok (e ∷ es) m ms) l ss hm (lm ∙ sym le) he hs (ls ∙ ap suc (sym le)) in
        record { blocks = w.blocks; states = w.states; many = w.many ∙ ap suc le }

    knot_well : (k b : Bool) (g : List ℕ → Ride) → Grouped g → Well i (pistons i) (knot i f k g (ends i b)).blocks (knot i f k g (ends i b)).states
    knot_well false b g h = h (eom (taken b)) (replicate i.others 255) (length-replicate i.others 255) (ends_eoms b)
    knot_well true b g h =
        let v = h (eom (chain_length i)) (replicate i.others (eom (chain_length i))) (length-replicate i.others (eom (chain_length i))) chains_eoms in
        let c : Bytes = chain i (g (chains i)).states in
        let w = inject_well (length c) c (replicate i.others c) (g (chains i)).states (length-replicate i.others c) (each_replicate (λ (m : Bytes). (length m ≡ length c) × Small m) (pistons i) c (refl, chain_small (g (chains i)).states v.states)) v.states v.many
        (eom (taken b)) (replicate i.others 255) (length-replicate i.others 255) (ends_eoms b) in
        well_append (pistons i) (g (chains i)).blocks _ (g (chains i)).states _ v w

    -- ---- messages, starts, steps and sessions
    pub message_well : (decrypt : Bool) (ss : States) (at : ℕ) (g : Message) → at < text_rate i → Small g.text → Small g.meta → Each (State i) ss → length ss ≡ pistons i
        → Well i (pistons i) (message i f decrypt ss at g).blocks (message i f decrypt ss at g).states
    unfolding message
    message_well decrypt ss at g ha st sm hs ls =
        knot_well (knots i g) true (group i f decrypt ss at g.text g.meta)
        (λ e es le he. let w = ride_well decrypt (planned i ok e es at (length g.text) (length g.meta) ha) ss g.text g.meta refl refl st sm he hs (ls ∙ ap suc (sym le)) in
        record { blocks = w.blocks; states = w.states; many = w.many ∙ ap suc le })

    pub start_well : (a : Start) → SmallStart a → Well i (pistons i) (start i f a).blocks (start i f a).states
    unfolding start
    start_well a h =
        let s : Bytes = replicate (state_length i) 0 in
        let m : Bytes = suv i a in
        knot_well a.forgets a.tagged (inject i f (fresh i) (diversify i (pistons i) 0 m))
        (inject_well (length m + 2) (m ++ (pistons i ∷ 0 ∷ [])) (diversify i i.others 1 m) (fresh i) (length-diversify i.others 1 m)
        (diversify_alike (pistons i) 0 m (omega (arith, ok.pistons_small)) (suv_small a h))
        (each_replicate (State i) (pistons i) s (record { long = length-replicate (state_length i) 0; small = small_zeros (state_length i) })) (length-replicate (pistons i) s))

    pub steps_shaped : (ss : States) (at : ℕ) (xs : List Step) → at < text_rate i → Each (λ (x : Step). SmallMessage x.message) xs → Each (State i) ss → length ss ≡ pistons i
        → Each (ShapedRound i) (steps i f ss at xs).blocks
    steps_shaped ss at [] ha hx hs ls = tt
    steps_shaped ss at (x ∷ xs) ha hx hs ls =
        let r : Ride = message i f x.decrypt ss at x.message in
        let w = message_well x.decrypt ss at x.message ha hx.0.text hx.0.meta hs ls in
        each_append (ShapedRound i) r.blocks _ w.blocks (steps_shaped r.states tag_len xs ok.tag_fits hx.1 w.states w.many)

    wrapped_small : (gs : List Message) → Each SmallMessage gs → Each (λ (x : Step). SmallMessage x.message) (map (step false) gs)
    wrapped_small [] h = tt
    wrapped_small (g ∷ gs) h = (h.0, wrapped_small gs h.1)

    -- every block of a session
    pub session_shaped : (a : Start) (gs : List Message) → SmallStart a → Each SmallMessage gs → Each (ShapedRound i) (session_blocks i f a gs)
    unfolding session_blocks
    session_shaped a gs ha hg =
        let w = start_well a ha in
        each_append (ShapedRound i) (start i f a).blocks _ w.blocks
        (steps_shaped (start i f a).states (taken a.tagged) (map (step false) gs) (taken_fits i ok a.tagged) (wrapped_small gs hg) w.states w.many)
