-- What a block is made of: its bytes before the metadata, those before the offsets, and the four offsets. The length of each and of the block, and that its bytes are below 256.
use Prim.Native.Nat.{ℕ, ◌+◌, ◌^◌, ◌<◌}
use mathlib.Core.Path.{◌≡◌, refl}
use mathlib.Core.List.{[], ◌∷◌, ◌++◌}
use native.Mathlib.Omega.{arith}
use lib.ListN.{length, length-append, length-replicate}
use Rattle.endian.specs.Small.{Small}
use Rattle.endian.proofs.Small.{small_append}
use Rattle.motorist.specs.Instance.{Instance, Sound, state_length, full_rate}
use Rattle.motorist.specs.Piston.{Bytes, pad, crypt_end, laid, block}
use Rattle.motorist.specs.Shape.{Fit}
use Rattle.motorist.proofs.KeyPack.{length_pad}
use Rattle.motorist.proofs.Small.{small_four, small_pad, small_laid}

pub length-laid : (at : ℕ) (t : Bytes) → length (laid at t) ≡ crypt_end at (length t)
length-laid at [] = refl
length-laid at (x ∷ t) = simp (length-append, length-replicate)

abbrev pub before_meta : (at : ℕ) → Bytes → (from : ℕ) → Bytes
before_meta at t from = pad from (laid at t)

abbrev pub before_offsets : Instance → (at : ℕ) → Bytes → (from : ℕ) → Bytes → Bytes
before_offsets i at t from m = pad (full_rate i) (before_meta at t from ++ m)

abbrev pub four : (at : ℕ) → Bytes → (from : ℕ) → Bytes → (e : ℕ) → Bytes
four at t from m e = e ∷ crypt_end at (length t) ∷ from ∷ (from + length m) ∷ []

module _ (i : Instance) (ok : Sound i) (at : ℕ) (t : Bytes) (from : ℕ) (m : Bytes) (e : ℕ) (fit : Fit i at (length t) from (length m)) where
  abbrev offsets : Bytes
  offsets = four at t from m e

  abbrev before : Bytes
  before = before_meta at t from

  abbrev front : Bytes
  front = before_offsets i at t from m

  pub length_before : length before ≡ from
  length_before = length_pad from (laid at t) (rw length-laid fit.text_fits)

  pub length_front : length front ≡ full_rate i
  length_front = length_pad (full_rate i) (before ++ m) (rw (length-append, length_before) fit.meta_fits)

  pub block-length : length (block i at t from m e) ≡ state_length i
  unfolding block
  block-length = length_pad (state_length i) (front ++ offsets) (rw (length-append front offsets, length_front) ok.offsets_fit)

  pub block_small : Small t → Small m → e < 2 ^ 8 → Small (block i at t from m e)
  unfolding block
  block_small ht hm he =
      small_pad (state_length i) (front ++ offsets)
      (small_append front offsets (small_pad (full_rate i) (before ++ m) (small_append before m (small_pad from (laid at t) (small_laid at t ht)) hm))
      (small_four e (crypt_end at (length t)) from (from + length m) he
      (omega (arith, fit.text_fits, fit.meta_fits, ok.offsets_small)) (omega (arith, fit.meta_fits, ok.offsets_small)) (omega (arith, fit.meta_fits, ok.offsets_small))))
