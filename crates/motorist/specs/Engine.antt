-- The Engine (003, 1.5): text and metadata dealt to the Pistons in turn, round by round; and metadata injected into all of them, collectively.
use Rattle.std.specs.Prelude.{ℕ, zero, suc, ◌+◌, ◌-◌, min, Bool, true, false, List, [], ◌∷◌, ◌++◌, map, length, get_or, take, drop}
use Rattle.motorist.specs.Instance.{Instance, text_rate, full_rate}
use Rattle.motorist.specs.Piston.{Bytes, Part, block, mask, plain, absorb}

-- a state for each Piston, and in a round a block for each
abbrev pub States : Type 0
States = List Bytes

abbrev pub Blocks : Type 0
Blocks = List Bytes

-- the first Piston's
abbrev pub first_piston : List Bytes → Bytes
first_piston l = get_or l 0 []

-- ---- the plan, from lengths alone
-- a part for each Piston
abbrev pub Round : Type 0
Round = List Part

-- what a round leaves of so many bytes of text, and of metadata
abbrev pub text_left : Round → ℕ → ℕ
text_left [] t = t
text_left (p ∷ ps) t = text_left ps (t - p.text)

abbrev pub meta_left : Round → ℕ → ℕ
meta_left [] m = m
meta_left (p ∷ ps) m = meta_left ps (m - p.meta)

-- nothing is left, of the text nor of the metadata
abbrev pub none_left : ℕ → ℕ → Bool
none_left zero zero = true
none_left zero (suc m) = false
none_left (suc t) m = false

-- the EOMs of a round are a list, one for each Piston; inside a group each is 0
abbrev pub goes_on : List ℕ → List ℕ
goes_on es = map (λ e. 0) es

module _ (i : Instance) where
  -- where metadata starts, in all blocks of a round that has t bytes of text left to deal
  abbrev pub inject_start : ℕ → ℕ
  inject_start zero = 0
  inject_start (suc t) = text_rate i

  -- as much as fits a block, of t bytes of text from `at` on, and of m bytes of metadata from `from` on
  abbrev pub text_fit : ℕ → ℕ → ℕ
  text_fit at t = min (text_rate i - at) t

  abbrev pub meta_fit : ℕ → ℕ → ℕ
  meta_fit from m = min (full_rate i - from) m

  -- t bytes of text, for the first Piston from `at` on and for the others from 0, and m of metadata from `from` on,
  -- dealt to Pistons with the EOMs es in turn: each takes as much as fits
  abbrev pub deal : ℕ → ℕ → ℕ → ℕ → List ℕ → Round
  deal from at t m [] = []
  deal from at t m (e ∷ es) =
      let x : ℕ = text_fit at t in
      let y : ℕ = meta_fit from m in
      record { at = at; text = x; from = from; meta = y; eom = e } ∷ deal from 0 (t - x) (m - y) es

  unfoldable pub round : ℕ → ℕ → ℕ → List ℕ → Round
  round at t m es = deal (inject_start t) at t m es

  -- the rounds of t bytes of text, the first from `at` on, and m of metadata, until nothing is left: the last has the EOMs es.
  -- (n bounds the number of rounds after the first; t + m is enough)
  abbrev pub plan_to : ℕ → ℕ → ℕ → ℕ → List ℕ → List Round
  plan_to zero at t m es = round at t m es ∷ []
  plan_to (suc n) at t m es =
      let r : Round = round at t m (goes_on es) in
      elim (none_left (text_left r t) (meta_left r m)) [
        | true ↦ round at t m es ∷ []
        | false ↦ r ∷ plan_to n 0 (text_left r t) (meta_left r m) es
      ]

  unfoldable pub plan : ℕ → ℕ → ℕ → List ℕ → List Round
  plan at t m es = plan_to (t + m) at t m es

-- ---- riding a plan
-- what comes of rounds: the output, the blocks of each round, and the states after them
pub record Ride : Type 0 where
  pub output : Bytes
  pub blocks : List Blocks
  pub states : States

-- what a round leaves of the text, and of the metadata
abbrev pub text_after : Round → Bytes → Bytes
text_after [] t = t
text_after (p ∷ ps) t = text_after ps (drop p.text t)

abbrev pub meta_after : Round → Bytes → Bytes
meta_after [] m = m
meta_after (p ∷ ps) m = meta_after ps (drop p.meta m)

-- the output of a round: each Piston's text under its state
abbrev pub crypt : Round → States → Bytes → Bytes
crypt [] ss t = []
crypt (p ∷ ps) ss t = mask (first_piston ss) p.at (take p.text t) ++ crypt ps (drop 1 ss) (drop p.text t)

module _ (i : Instance) where
  -- the blocks of a round: each holds the plaintext of its text, also where that is to be decrypted
  abbrev pub fill : Bool → Round → States → Bytes → Bytes → Blocks
  fill decrypt [] ss t m = []
  fill decrypt (p ∷ ps) ss t m =
      block i p.at (plain decrypt (first_piston ss) p.at (take p.text t)) p.from (take p.meta m) p.eom
      ∷ fill decrypt ps (drop 1 ss) (drop p.text t) (drop p.meta m)

  -- strings injected collectively: for each Piston its own, all of one length, and its EOM; a round, and rounds until nothing is left
  abbrev pub each : List Bytes → List ℕ → Blocks
  each [] es = []
  each (m ∷ ms) [] = []
  each (m ∷ ms) (e ∷ es) = block i 0 [] 0 m e ∷ each ms es

  abbrev pub inject_to : ℕ → List Bytes → List ℕ → List Blocks
  inject_to zero ms es = each ms es ∷ []
  inject_to (suc n) ms es =
      elim (none_left 0 (length (first_piston ms) - full_rate i)) [
        | true ↦ each ms es ∷ []
        | false ↦ each (map (take (full_rate i)) ms) (goes_on es) ∷ inject_to n (map (drop (full_rate i)) ms) es
      ]

  unfoldable pub inject_collective : List Bytes → List ℕ → List Blocks
  inject_collective ms es = inject_to (length (first_piston ms)) ms es

  module _ (f : Bytes → Bytes) where
    -- the states after a round of blocks, and after all rounds
    abbrev pub absorbs : States → Blocks → States
    absorbs ss [] = []
    absorbs ss (b ∷ bs) = absorb f (first_piston ss) b ∷ absorbs (drop 1 ss) bs

    abbrev pub run : States → List Blocks → States
    run ss [] = ss
    run ss (bs ∷ rest) = run (absorbs ss bs) rest

    -- the rounds of a plan, with the text t (the ciphertext, where it is to be decrypted) and the metadata m
    abbrev pub ride : Bool → List Round → States → Bytes → Bytes → Ride
    ride decrypt [] ss t m = record { output = []; blocks = []; states = ss }
    ride decrypt (r ∷ rs) ss t m =
        let bs : Blocks = fill decrypt r ss t m in
        let x : Ride = ride decrypt rs (absorbs ss bs) (text_after r t) (meta_after r m) in
        record { output = crypt r ss t ++ x.output; blocks = bs ∷ x.blocks; states = x.states }

    -- a group: all of the text t, from `at` on, and of the metadata m; its last round has the EOMs es
    abbrev pub group : Bool → States → ℕ → Bytes → Bytes → List ℕ → Ride
    group decrypt ss at t m es = ride decrypt (plan i at (length t) (length m) es) ss t m
