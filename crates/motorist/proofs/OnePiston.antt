-- One Piston: what a group, a knot, a start and a message are, in 01's own sentences. The code at one Piston goes by these laws.
use Prim.Native.Nat.{ℕ, ◌+◌, ◌-◌, ◌≤◌, ◌<◌}
use mathlib.Core.Path.{◌≡◌, refl, sym, ap, ◌∙◌}
use mathlib.Core.Bool.{Bool, true, false}
use mathlib.Core.List.{List, [], ◌∷◌, ◌++◌, append-nil}
use mathlib.Core.Logic.{◌⊎◌, inl, inr}
use native.Mathlib.Omega.{arith}
use lib.ListN.{length, take, drop, replicate, length-drop, length-take}
use lib.Seq.{take-nil, drop-nil, take_all}
use Rattle.motorist.specs.Instance.{Instance, Sound, solo, state_length, text_rate, full_rate, chain_length, tag_len}
use Rattle.motorist.specs.Piston.{Bytes, eom, block, mask, plain, absorb}
use Rattle.motorist.specs.Engine.{States, Blocks, first_piston, Round, inject_start, text_fit, meta_fit, round, Ride, ride, group, inject_collective, run}
use Rattle.motorist.specs.Motorist.{Start, Message, suv, taken, inject, knot, start, message}
use Rattle.motorist.proofs.Plans.{eom_chain, Planned, last, more, planned, plan_last, plan_more, Injected, final, further, injected}

some_left : (x t y m : ℕ) → (x < t) ⊎ (y < m) → 0 < (t - x) + (m - y)
some_left x t y m (inl h) = omega arith
some_left x t y m (inr h) = omega arith

plain_nil : (decrypt : Bool) (s : Bytes) (at : ℕ) → plain decrypt s at [] ≡ []
plain_nil false s at = refl
plain_nil true s at = refl

module _ (b w c : ℕ) (f : Bytes → Bytes) where
  abbrev one : Instance
  one = solo b w c

  -- of t bytes of text and m of metadata, how much goes into a block whose text starts at `at`, and where its metadata starts
  abbrev pub some_text : ℕ → Bytes → ℕ
  some_text at t = text_fit one at (length t)

  abbrev pub from : Bytes → ℕ
  from t = inject_start one (length t)

  abbrev pub some_meta : Bytes → Bytes → ℕ
  some_meta t m = meta_fit one (from t) (length m)

  -- the block of so much of the text t and the metadata m, with the EOM e; s is the state before it
  abbrev pub next_block : Bool → Bytes → ℕ → Bytes → Bytes → ℕ → Bytes
  next_block decrypt s at t m e = block one at (plain decrypt s at (take (some_text at t) t)) (from t) (take (some_meta t m) m) e

  -- the block of a knot
  abbrev pub knot_block : Bytes → ℕ → Bytes
  knot_block s e = block one 0 [] 0 (take (chain_length one) s) e

  -- a group with a knot: the group ends with the length of a chaining value as its EOM; the first bytes of the output, so many,
  -- go in as metadata of one new block, which ends as the group would have ended
  abbrev pub one_knot : Bool → (ℕ → Ride) → ℕ → Ride
  one_knot false g e = g e
  one_knot true g e =
      let x : Ride = g (chain_length one) in
      let s : Bytes = first_piston x.states in
      record { output = x.output; blocks = x.blocks ++ ((knot_block s e ∷ []) ∷ []); states = absorb f s (knot_block s e) ∷ [] }

  -- some state that f gave
  abbrev pub Given : States → Type 0
  Given ss = (x : Bytes) × (ss ≡ f x ∷ [])

  module _ (ok : Sound one) where
    -- ---- a group: if all of it fits, one block
    pub group_last : (decrypt : Bool) (s : Bytes) (at : ℕ) (t m : Bytes) (e : ℕ) → at < text_rate one → length t ≤ some_text at t → length m ≤ some_meta t m
        → group one f decrypt (s ∷ []) at t m (e ∷ [])
        ≡ (let x : Bytes = next_block decrypt s at t m e in
        record { output = mask s at (take (some_text at t) t); blocks = (x ∷ []) ∷ []; states = absorb f s x ∷ [] })
    unfolding round
    group_last decrypt s at t m e ha ht hm = rw (plan_last one ok e [] at (length t) (length m) ha (omega arith) (omega arith)) (simp append-nil)

    -- else a block of as much as fits, with EOM 0, and the group of what is left
    pub group_more : (decrypt : Bool) (s : Bytes) (at : ℕ) (t m : Bytes) (e : ℕ) → at < text_rate one → (some_text at t < length t) ⊎ (some_meta t m < length m)
        → group one f decrypt (s ∷ []) at t m (e ∷ [])
        ≡ (let x : Bytes = next_block decrypt s at t m 0 in
        let y : Ride = group one f decrypt (absorb f s x ∷ []) 0 (drop (some_text at t) t) (drop (some_meta t m) m) (e ∷ []) in
        record { output = mask s at (take (some_text at t) t) ++ y.output; blocks = (x ∷ []) ∷ y.blocks; states = y.states })
    unfolding round
    group_more decrypt s at t m e ha h =
        rw (
          plan_more one ok e [] at (length t) (length m) ha (some_left (some_text at t) (length t) (some_meta t m) (length m) h),
          append-nil,
          ← length-drop (some_text at t) t,
          ← length-drop (some_meta t m) m,
        )

    -- ---- metadata alone: blocks of up to the full rate
    pub meta_last : (decrypt : Bool) (s m : Bytes) (e : ℕ) → length m ≤ full_rate one
        → group one f decrypt (s ∷ []) 0 [] m (e ∷ [])
        ≡ (let x : Bytes = block one 0 [] 0 m e in
        record { output = []; blocks = (x ∷ []) ∷ []; states = absorb f s x ∷ [] })
    meta_last decrypt s m e h =
        rw (group_last decrypt s 0 [] m e (omega (arith, ok.tag_fits)) (omega arith) (omega arith), take-nil, plain_nil, take_all (some_meta [] m) m (omega arith))

    pub meta_more : (decrypt : Bool) (s m : Bytes) (e : ℕ) → full_rate one < length m
        → group one f decrypt (s ∷ []) 0 [] m (e ∷ [])
        ≡ (let x : Bytes = block one 0 [] 0 (take (full_rate one) m) 0 in
        let y : Ride = group one f decrypt (absorb f s x ∷ []) 0 [] (drop (full_rate one) m) (e ∷ []) in
        record { output = y.output; blocks = (x ∷ []) ∷ y.blocks; states = y.states })
    meta_more decrypt s m e h =
        let k : some_meta [] m ≡ full_rate one = omega arith in
        rw (group_more decrypt s 0 [] m e (omega (arith, ok.tag_fits)) (inr (omega arith)), k, take-nil, drop-nil, plain_nil)

    -- metadata injected collectively is metadata alone
    injected_group : (decrypt : Bool) {e : ℕ} (s : Bytes) {m : Bytes} {bs : List Blocks} → Injected one (e ∷ []) m [] bs
        → record { output = []; blocks = bs; states = run one f (s ∷ []) bs } ≡ group one f decrypt (s ∷ []) 0 [] m (e ∷ [])
    injected_group decrypt {e} s (final {m = m} h) = sym (meta_last decrypt s m e h)
    injected_group decrypt {e} s (further {m = m} h ps) = rw (meta_more decrypt s m e h, ← injected_group decrypt (absorb f s (block one 0 [] 0 (take (full_rate one) m) 0)) ps)

    pub inject-group : (decrypt : Bool) (s m : Bytes) (e : ℕ) → inject one f (s ∷ []) (m ∷ []) (e ∷ []) ≡ group one f decrypt (s ∷ []) 0 [] m (e ∷ [])
    inject-group decrypt s m e = injected_group decrypt s (injected one ok (e ∷ []) m [])

    inject_one : (m : Bytes) (e : ℕ) → length m ≤ full_rate one → inject_collective one (m ∷ []) (e ∷ []) ≡ (block one 0 [] 0 m e ∷ []) ∷ []
    inject_one m e h = ap (λ (x : Ride). x.blocks) (inject-group false [] m e ∙ meta_last false [] m e h)

    -- ---- one Piston stays one, and its state is what f gave last
    ride_given : (decrypt : Bool) {e at t m : ℕ} {rs : List Round} → Planned one (e ∷ []) at t m rs → (ss : States) (text meta : Bytes)
        → Given (ride one f decrypt rs ss text meta).states
    unfolding round
    ride_given decrypt (last h p q) ss text meta = (_, refl)
    ride_given decrypt (more h g ps) ss text meta = ride_given decrypt ps _ _ _

    pub group_given : (decrypt : Bool) (ss : States) (at : ℕ) (t m : Bytes) (e : ℕ) → at < text_rate one → Given (group one f decrypt ss at t m (e ∷ [])).states
    group_given decrypt ss at t m e ha = ride_given decrypt (planned one ok e [] at (length t) (length m) ha) ss t m

    knot_one : (k : Bool) (g : List ℕ → Ride) (h : ℕ → Ride) (e : ℕ) → ((x : ℕ) → g (x ∷ []) ≡ h x) → Given (h (chain_length one)).states
        → knot one f k g (e ∷ []) ≡ one_knot k h e
    knot_one false g h e same given = same e
    knot_one true g h e same (x, p) =
        let l : length (take (chain_length one) (f x)) ≤ full_rate one = rw length-take (omega (arith, ok.chain_fits, ok.text_fits)) in
        rw (eom_chain one ok, same (chain_length one), p, append-nil, inject_one (take (chain_length one) (f x)) e l)

    -- ---- a start: key pack, nonce, 1 and 0 as metadata alone, from all zeros on; a knot if it forgets
    pub start_one : (a : Start)
        → start one f a
        ≡ one_knot a.forgets (λ e. group one f false (replicate (state_length one) 0 ∷ []) 0 [] (suv one a ++ (1 ∷ 0 ∷ [])) (e ∷ [])) (eom (taken a.tagged))
    unfolding start
    start_one a =
        let s : Bytes = replicate (state_length one) 0 in
        let m : Bytes = suv one a ++ (1 ∷ 0 ∷ []) in
        knot_one a.forgets _ (λ e. group one f false (s ∷ []) 0 [] m (e ∷ [])) (eom (taken a.tagged)) (λ e. inject-group false s m e)
        (group_given false (s ∷ []) 0 [] m (chain_length one) (omega (arith, ok.tag_fits)))

    -- a message: the group of its text and metadata; a knot if it forgets; the end with EOM 16
    pub message_one : (decrypt : Bool) (s : Bytes) (at : ℕ) (g : Message) → at < text_rate one
        → message one f decrypt (s ∷ []) at g
        ≡ one_knot g.forgets (λ e. group one f decrypt (s ∷ []) at g.text g.meta (e ∷ [])) tag_len
    unfolding message
    message_one decrypt s at g ha =
        knot_one g.forgets (group one f decrypt (s ∷ []) at g.text g.meta) _ tag_len (λ e. refl)
        (group_given decrypt (s ∷ []) at g.text g.meta (chain_length one) ha)

    one_given : (k : Bool) (g : ℕ → Ride) (e : ℕ) → ((x : ℕ) → Given (g x).states) → Given (one_knot k g e).states
    one_given false g e h = h e
    one_given true g e h = (_, refl)

    pub start_given : (a : Start) → Given (start one f a).states
    start_given a =
        rw (start_one a)
        (one_given a.forgets _ (eom (taken a.tagged)) (λ e. group_given false (replicate (state_length one) 0 ∷ []) 0 [] (suv one a ++ (1 ∷ 0 ∷ [])) e (omega (arith, ok.tag_fits))))

    pub message_given : (decrypt : Bool) (s : Bytes) (at : ℕ) (g : Message) → at < text_rate one → Given (message one f decrypt (s ∷ []) at g).states
    message_given decrypt s at g ha =
        rw (message_one decrypt s at g ha) (one_given g.forgets _ tag_len (λ e. group_given decrypt (s ∷ []) at g.text g.meta e ha))
