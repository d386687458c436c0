-- The shape of a block of a session, in words for theorems: b/8 bytes below 256, text and metadata with their room, the offset bytes as 01 lists them.
use Rattle.std.specs.Prelude.{◌≡◌, ◌⊎◌, List, [], ◌∷◌, ℕ, ◌+◌, ◌≤◌, length}
use Rattle.endian.specs.Small.{Small}
use Rattle.motorist.specs.Instance.{Instance, state_length, text_rate, full_rate, chain_length, tag_len}
use Rattle.motorist.specs.Piston.{Bytes, crypt_end, block, crypt_end_of}
use Rattle.motorist.specs.Engine.{Blocks, first_piston, inject_start}
use Rattle.motorist.specs.Motorist.{Start, Message}

-- every element has P
abbrev pub Each {ℓ} : {A : Type ℓ} → (A → Type 0) → List A → Type 0
Each P [] = Unit {0}
Each P (x ∷ xs) = P x × Each P xs

-- ---- states, and a permutation that keeps them
pub record State (i : Instance) (s : Bytes) : Type 0 where
  pub long : length s ≡ state_length i
  pub small : Small s

abbrev pub Keeps : Instance → (Bytes → Bytes) → Type 0
Keeps i f = (s : Bytes) → State i s → State i (f s)

-- ---- blocks
-- t bytes of text from `at` on and m of metadata from `from` on have room in a block: the text up to the text rate, the metadata behind it and up to the full rate
pub record Fit (i : Instance) (at t from m : ℕ) : Type 0 where
  pub text_room : at + t ≤ text_rate i
  pub text_fits : crypt_end at t ≤ from
  pub meta_fits : from + m ≤ full_rate i

-- 0 inside a group; at its end the length of a chaining value, of a tag, or 255
abbrev pub Eom : Instance → ℕ → Type 0
Eom i e = (e ≡ 0) ⊎ ((e ≡ chain_length i) ⊎ ((e ≡ tag_len) ⊎ (e ≡ 255)))

-- b is the block of some text and some metadata that starts at `from`. What stands at each place of such a block is said in proofs/Blocks.antt
pub record Shaped (i : Instance) (from : ℕ) (b : Bytes) : Type 0 where
  pub at : ℕ
  pub text : Bytes
  pub meta : Bytes
  pub eom : ℕ
  pub is : b ≡ block i at text from meta eom
  pub fit : Fit i at (length text) from (length meta)
  pub end : Eom i eom
  pub long : length b ≡ state_length i
  pub small : Small b

-- the blocks of a round: all metadata starts at the text rate if the first block has text, that is, if its Crypt End is not 0; else at 0
abbrev pub ShapedRound : Instance → Blocks → Type 0
ShapedRound i bs = Each (Shaped i (inject_start i (crypt_end_of i (first_piston bs)))) bs

-- ---- inputs of bytes
pub record SmallStart (a : Start) : Type 0 where
  pub key : Small a.key
  pub nonce : Small a.nonce

pub record SmallMessage (g : Message) : Type 0 where
  pub text : Small g.text
  pub meta : Small g.meta
