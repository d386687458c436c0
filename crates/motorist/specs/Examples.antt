-- What the proved set is computed on: 01's plans B1 to B13 and the key pack, beside what 01 states, at whole blocks. proofs/Worked.antt computes both sides.
-- Only lengths matter to a plan, so keys, nonces, texts and metadata are sevens, and the permutation changes nothing.
use Rattle.std.specs.Prelude.{ℕ, Bool, true, false, List, [], ◌∷◌, map, length, drop, replicate}
use Rattle.motorist.specs.Instance.{Instance, state_length, text_rate, full_rate, chain_length, pack_length, lake, river}
use Rattle.motorist.specs.Piston.{Bytes, block, offsets_of}
use Rattle.motorist.specs.Engine.{States, first_piston, round, plan, inject_collective}
use Rattle.motorist.specs.Motorist.{Start, Message, key_pack, start, message}
use Rattle.motorist.specs.Session.{session_blocks}

abbrev pub still : Bytes → Bytes
still s = s

-- a start with a nonce of n bytes, a tag asked or not, forgetting or not
abbrev pub starting : ℕ → Bool → Bool → Start
starting n tagged forgets = record { key = replicate 16 7; nonce = replicate n 7; tagged = tagged; forgets = forgets }

-- a message of t bytes of text and m of metadata
abbrev pub sevens : ℕ → ℕ → Message
sevens t m = record { text = replicate t 7; meta = replicate m 7; forgets = false }

-- the rounds of a start; and those of a message of t bytes of text and m of metadata, which follows a start with a tag or without
unfoldable pub start_plan : Instance → Start → List (List Bytes)
unfolding session_blocks start inject_collective block state_length text_rate full_rate chain_length pack_length
start_plan i a = map (map (offsets_of i)) (session_blocks i still a [])

unfoldable pub message_plan : Instance → Bool → ℕ → ℕ → Bool → List (List Bytes)
unfolding start_plan message plan round
message_plan i tagged t m forgets =
    let a : Start = starting 0 tagged false in
    let g : Message = record { text = replicate t 7; meta = replicate m 7; forgets = forgets } in
    drop (length (start_plan i a)) (map (map (offsets_of i)) (session_blocks i still a (g ∷ [])))

-- the blocks of the one Piston
abbrev pub alone : List (List Bytes) → List Bytes
alone rs = map first_piston rs

-- blocks as 01 states them, each (crypt end, inject start, inject end, EOM)
abbrev pub stated : List (ℕ × ℕ × ℕ × ℕ) → List Bytes
stated qs = map (λ q. q.0 ∷ q.1 ∷ q.2 ∷ q.3 ∷ []) qs

-- 01's plans worked by hand, each beside the blocks that 01 states, and the key pack of the key 01 23 45 67 89 AB CD EF with l = 18
unfoldable pub rows : List (List Bytes × List Bytes)
rows =
    -- B1: start, nonce 150, tag
    (alone (start_plan lake (starting 150 true false)), stated ((0, 0, 192, 16) ∷ []))
    -- B2: nonce 151, tag
    ∷ (alone (start_plan lake (starting 151 true false)), stated ((0, 0, 192, 0) ∷ (0, 0, 1, 16) ∷ []))
    -- B3: nonce 0, no tag
    ∷ (alone (start_plan lake (starting 0 false false)), stated ((0, 0, 42, 255) ∷ []))
    -- B4: B3 with forgetting
    ∷ (alone (start_plan lake (starting 0 false true)), stated ((0, 0, 42, 32) ∷ (0, 0, 32, 255) ∷ []))
    -- B5: text 0, metadata 0
    ∷ (alone (message_plan lake true 0 0 false), stated ((0, 0, 0, 16) ∷ []))
    -- B6: 152, 24
    ∷ (alone (message_plan lake true 152 24 false), stated ((168, 168, 192, 16) ∷ []))
    -- B7: 153, 0
    ∷ (alone (message_plan lake true 153 0 false), stated ((168, 168, 168, 0) ∷ (1, 168, 168, 16) ∷ []))
    -- B8: 152, 25
    ∷ (alone (message_plan lake true 152 25 false), stated ((168, 168, 192, 0) ∷ (0, 0, 1, 16) ∷ []))
    -- B9: 0, 192
    ∷ (alone (message_plan lake true 0 192 false), stated ((0, 0, 192, 16) ∷ []))
    -- B10: 200, 30, forgetting
    ∷ (alone (message_plan lake true 200 30 true), stated ((168, 168, 192, 0) ∷ (48, 168, 174, 32) ∷ (0, 0, 32, 16) ∷ []))
    -- B11: 168, 0, after a start without tag
    ∷ (alone (message_plan lake false 168 0 false), stated ((168, 168, 168, 16) ∷ []))
    -- B12: River start, nonce 58, tag
    ∷ (alone (start_plan river (starting 58 true false)), stated ((0, 0, 96, 16) ∷ []))
    -- B13: River after a tag, 53, 29
    ∷ (alone (message_plan river true 53 29 false), stated ((68, 68, 96, 0) ∷ (1, 68, 69, 16) ∷ []))
    -- the key pack
    ∷ (key_pack 18 (0x01 ∷ 0x23 ∷ 0x45 ∷ 0x67 ∷ 0x89 ∷ 0xab ∷ 0xcd ∷ 0xef ∷ []) ∷ [], (0x12 ∷ 0x01 ∷ 0x23 ∷ 0x45 ∷ 0x67 ∷ 0x89 ∷ 0xab ∷ 0xcd ∷ 0xef ∷ 0x01 ∷ replicate 8 0) ∷ [])
    ∷ []

-- ---- several Pistons
-- the states of two Pistons, all ones and all twos
abbrev pub ones_and_twos : States
ones_and_twos = replicate 200 1 ∷ replicate 200 2 ∷ []
