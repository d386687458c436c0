-- Strings of bytes: every element is below 256, and stays so in what the definitions make of them.
use Rattle.motorist.specs.Shape.{Each}
use Prim.Native.Nat.{ℕ, zero, suc, ◌-◌, ◌^◌, ◌<◌}
use mathlib.Core.Bool.{Bool, true, false}
use mathlib.Core.List.{List, [], ◌∷◌, ◌++◌}
use native.Mathlib.Omega.{arith}
use lib.Bits.{xor_lt}
use lib.ListN.{length, drop, replicate}
use Rattle.endian.specs.Small.{Small}
use Rattle.endian.proofs.Small.{small_nil, small_cons, small_append, small_zeros, small_drop}
use Rattle.motorist.specs.Piston.{Bytes, pad, laid, xors, mask, plain}

-- all elements of a list
pub each_append {ℓ} : {A : Type ℓ} (P : A → Type 0) (xs ys : List A) → Each P xs → Each P ys → Each P (xs ++ ys)
each_append P [] ys hx hy = hy
each_append P (x ∷ xs) ys hx hy = (hx.0, each_append P xs ys hx.1 hy)

pub each_replicate {ℓ} : {A : Type ℓ} (P : A → Type 0) (n : ℕ) (x : A) → P x → Each P (replicate n x)
each_replicate P zero x h = tt
each_replicate P (suc n) x h = (h, each_replicate P n x h)

pub small_four : (a b c d : ℕ) → a < 2 ^ 8 → b < 2 ^ 8 → c < 2 ^ 8 → d < 2 ^ 8 → Small (a ∷ b ∷ c ∷ d ∷ [])
small_four a b c d ha hb hc hd = small_cons a (b ∷ c ∷ d ∷ []) ha (small_cons b (c ∷ d ∷ []) hb (small_cons c (d ∷ []) hc (small_cons d [] hd small_nil)))

pub small_pad : (n : ℕ) (s : Bytes) → Small s → Small (pad n s)
small_pad n s h = small_append s (replicate (n - length s) 0) h (small_zeros (n - length s))

pub small_laid : (at : ℕ) (t : Bytes) → Small t → Small (laid at t)
small_laid at [] h = h
small_laid at (x ∷ t) h = small_append (replicate at 0) (x ∷ t) (small_zeros at) h

pub small_xors : (s t : Bytes) → Small s → Small t → Small (xors s t)
small_xors [] t hs ht k = omega arith
small_xors (x ∷ s) [] hs ht k = hs k
small_xors (x ∷ s) (y ∷ t) hs ht zero = xor_lt 8 x y (hs 0) (ht 0)
small_xors (x ∷ s) (y ∷ t) hs ht (suc k) = small_xors s t (λ j. hs (suc j)) (λ j. ht (suc j)) k

pub small_mask : (s : Bytes) (at : ℕ) (t : Bytes) → Small s → Small t → Small (mask s at t)
small_mask s at t hs ht = small_xors t (drop at s) ht (small_drop at s hs)

pub small_plain : (decrypt : Bool) (s : Bytes) (at : ℕ) (t : Bytes) → Small s → Small t → Small (plain decrypt s at t)
small_plain false s at t hs ht = ht
small_plain true s at t hs ht = small_mask s at t hs ht
