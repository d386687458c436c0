-- A reader of blocks: from the blocks alone, round by round, it finds the start and the messages that made them.
use Rattle.std.specs.Prelude.{ℕ, zero, suc, ◌-◌, Bool, true, false, List, [], ◌∷◌, ◌++◌, map, eqb, length, take, drop}
use Rattle.motorist.specs.Instance.{Instance, chain_length, pack_length, tag_len}
use Rattle.motorist.specs.Piston.{Bytes, eom_of, text_of, meta_of}
use Rattle.motorist.specs.Engine.{Blocks, first_piston}
use Rattle.motorist.specs.Motorist.{Start, Message, taken, knots}

-- ---- one round
-- what an EOM says of its group: it continues, it ties a knot, or it closes, with a tag or without
pub data End : Type 0 where
  continues : End
  ties : End
  closes : Bool → End

-- a group as it is read
pub record Group : Type 0 where
  pub text : Bytes
  pub meta : Bytes
  pub forgets : Bool
  pub tagged : Bool

-- where the reader is: in the start, in a message whose next text starts at a place, or in a knot; with the text and the metadata read so far
pub data Mode : Type 0 where
  starting : Bytes → Mode
  inside : ℕ → Bytes → Bytes → Mode
  knotting : Bytes → Bytes → Mode

-- with the text t and the metadata m read: what comes next, which is μ if the group goes on, and the group if this was its end
abbrev pub turn : Mode → Bytes → Bytes → Bool → End → Mode × List Group
turn μ t m k continues = (μ, [])
turn μ t m k ties = (knotting t m, [])
turn μ t m k (closes b) = (inside (taken b) [] [], record { text = t; meta = m; forgets = k; tagged = b } ∷ [])

-- ---- the key pack
abbrev pub zeros? : Bytes → Bool
zeros? [] = true
zeros? (zero ∷ l) = zeros? l
zeros? (suc x ∷ l) = false

-- without the last byte that is not zero, and what follows it
abbrev pub trim : Bytes → Bytes
trim [] = []
trim (x ∷ l) = elim (zeros? l) [ true ↦ [] | false ↦ x ∷ trim l ]

module _ (i : Instance) where
  abbrev pub eom_says : ℕ → End
  eom_says e = elim (eqb e 0) [ true ↦ continues | false ↦ elim (eqb e (chain_length i)) [ true ↦ ties | false ↦ closes (eqb e tag_len) ] ]

  -- the text of a round, the first Piston's from `at` on, and its metadata
  abbrev pub texts_of : ℕ → Blocks → Bytes
  texts_of at [] = []
  texts_of at (b ∷ bs) = text_of i b at ++ texts_of 0 bs

  abbrev pub metas_of : Blocks → Bytes
  metas_of [] = []
  metas_of (b ∷ bs) = meta_of i b ++ metas_of bs

  abbrev pub enter : Mode → Blocks → End → Mode × List Group
  enter (starting m) bs e = let m' : Bytes = m ++ meta_of i (first_piston bs) in turn (starting m') [] m' false e
  enter (inside at t m) bs e =
      let t' : Bytes = t ++ texts_of at bs in
      let m' : Bytes = m ++ metas_of bs in
      turn (inside 0 t' m') t' m' false e
  enter (knotting t m) bs e = turn (knotting t m) t m true e

  abbrev pub read_round : Mode → Blocks → Mode × List Group
  read_round μ bs = enter μ bs (eom_says (eom_of i (first_piston bs)))

  -- ---- all rounds
  abbrev pub read : Mode → List Blocks → List Group
  read μ [] = []
  read μ (bs ∷ rest) = (read_round μ bs).1 ++ read (read_round μ bs).0 rest

  -- the first group is the start, without the two bytes at its end; the others are messages
  abbrev pub as_start : Group → Start
  as_start g =
      let n : Bytes = drop (pack_length i) g.meta in
      record { key = trim (drop 1 (take (pack_length i) g.meta)); nonce = take (length n - 2) n; tagged = g.tagged; forgets = g.forgets }

  abbrev pub as_message : Group → Message
  as_message g = record { text = g.text; meta = g.meta; forgets = g.forgets }

  abbrev pub as_session : List Group → Start × List Message
  as_session [] = (record { key = []; nonce = []; tagged = false; forgets = false }, [])
  as_session (g ∷ gs) = (as_start g, map as_message gs)

  abbrev pub decode : List Blocks → Start × List Message
  decode rs = as_session (read (starting []) rs)

  -- what the blocks show of a message: with several Pistons it always has a knot, and its own choice does not show
  abbrev pub shown : Message → Message
  shown g = record { text = g.text; meta = g.meta; forgets = knots i g }
