-- The Piston (003, 1.4): the block of b/8 bytes that it adds to its state, with the four fragment offsets; its text under the state; and a block read back.
use Rattle.std.specs.Prelude.{ℕ, zero, suc, ◌+◌, ◌-◌, Bool, true, false, List, [], ◌∷◌, ◌++◌, length, get_or, drop, replicate}
use Rattle.std.specs.Int.Bits.{bit_xor}
use Rattle.std.proofs.Math.Seq.{slice}
use Rattle.motorist.specs.Instance.{Instance, state_length, full_rate}

abbrev pub Bytes : Type 0
Bytes = List ℕ

-- l, then zeros up to n bytes
abbrev pub pad : ℕ → Bytes → Bytes
pad n l = l ++ replicate (n - length l) 0

-- each byte of the first xored with the second's at its place
abbrev pub xors : Bytes → Bytes → Bytes
xors [] ys = []
xors (x ∷ xs) [] = x ∷ xs
xors (x ∷ xs) (y ∷ ys) = bit_xor x y ∷ xors xs ys

-- ---- the block
-- what goes into a block, from lengths alone: so many bytes of text from `at` on, so many of metadata from `from` on, and the EOM
pub record Part : Type 0 where
  pub at : ℕ
  pub text : ℕ
  pub from : ℕ
  pub meta : ℕ
  pub eom : ℕ

-- Crypt End, with t bytes of text from `at` on: one past the last, or 0 if there is none
abbrev pub crypt_end : ℕ → ℕ → ℕ
crypt_end at zero = 0
crypt_end at (suc t) = at + suc t

-- EOM at the end of a group, where n bytes of the next output are taken as tag or chaining value: n, or 255 if none is taken
abbrev pub eom : ℕ → ℕ
eom zero = 255
eom (suc n) = suc n

-- as 01 writes it: (Crypt End, Inject Start, Inject End, EOM)
abbrev pub offsets_for : Part → Bytes
offsets_for p = crypt_end p.at p.text ∷ p.from ∷ (p.from + p.meta) ∷ p.eom ∷ []

-- zeros up to `at` and the text t; nothing if there is no text
abbrev pub laid : ℕ → Bytes → Bytes
laid at [] = []
laid at (x ∷ t) = replicate at 0 ++ x ∷ t

-- the block with the text t from `at` on, the metadata m from `from` on and the EOM e: text, metadata, EOM, Crypt End, Inject Start, Inject End, and zeros between
unfoldable pub block : Instance → ℕ → Bytes → ℕ → Bytes → ℕ → Bytes
block i at t from m e =
    pad (state_length i)
    (pad (full_rate i) (pad from (laid at t) ++ m) ++ (e ∷ crypt_end at (length t) ∷ from ∷ (from + length m) ∷ []))

-- ---- text under the state
-- the text t under the state s, whose output bytes from `at` on are the key stream: ciphertext of plaintext, and plaintext of ciphertext
abbrev pub mask : Bytes → ℕ → Bytes → Bytes
mask s at t = xors t (drop at s)

-- the plaintext of the text t: t itself, or, where t is to be decrypted, what stands under the mask
abbrev pub plain : Bool → Bytes → ℕ → Bytes → Bytes
plain false s at t = t
plain true s at t = mask s at t

-- the state s after the block b: b is added, and the permutation f applied
abbrev pub absorb : (Bytes → Bytes) → Bytes → Bytes → Bytes
absorb f s b = f (xors s b)

-- ---- a block read back: its offset bytes, and the fragments between them
module _ (i : Instance) (b : Bytes) where
  abbrev pub eom_of : ℕ
  eom_of = get_or b (full_rate i) 0

  abbrev pub crypt_end_of : ℕ
  crypt_end_of = get_or b (full_rate i + 1) 0

  abbrev pub inject_start_of : ℕ
  inject_start_of = get_or b (full_rate i + 2) 0

  abbrev pub inject_end_of : ℕ
  inject_end_of = get_or b (full_rate i + 3) 0

  -- as 01 writes them
  abbrev pub offsets_of : Bytes
  offsets_of = crypt_end_of ∷ inject_start_of ∷ inject_end_of ∷ eom_of ∷ []

  -- the text from `at` on, and the metadata
  abbrev pub text_of : ℕ → Bytes
  text_of at = slice at crypt_end_of b

  abbrev pub meta_of : Bytes
  meta_of = slice inject_start_of inject_end_of b
