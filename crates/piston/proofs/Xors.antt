-- Laws of xor on runs of bytes: parts that are put in one behind the other are put in at once.
use mathlib.Core.Path.{◌≡◌, refl, sym, ap, ap₂, ◌∙◌}
use mathlib.Core.List.{[], ◌∷◌, ◌++◌, append-nil}
use Prim.Native.Nat.{ℕ, zero, suc, ◌+◌, ◌≤◌}
use native.Mathlib.Nat.{suc-add, zero-add}
use native.Mathlib.Omega.{arith}
use lib.Bits.{bit_xor, xor_zero_l, xor_zero_r}
use lib.ListN.{length, take, drop, replicate, length-drop}
use lib.Seq.{drop-drop}
use Rattle.motorist.specs.Piston.{Bytes, xors, laid, mask}
use Rattle.piston.specs.Placed.{placed}

pub xors_nil : (s : Bytes) → xors s [] ≡ s
xors_nil [] = refl
xors_nil (x ∷ s) = refl

pub xors-zeros : (s : Bytes) (k : ℕ) → xors s (replicate k 0) ≡ s
xors-zeros [] k = refl
xors-zeros (x ∷ s) zero = refl
xors-zeros (x ∷ s) (suc k) = ap₂ (λ (a : ℕ) (l : Bytes). a ∷ l) (xor_zero_r x) (xors-zeros s k)

-- nothing put in at a place, or zeros before it, is the same
pub xors-laid : (s : Bytes) (p : ℕ) (v : Bytes) → xors s (laid p v) ≡ xors s (placed p v)
xors-laid s p [] = xors_nil s ∙ sym (rw append-nil (xors-zeros s p))
xors-laid s p (x ∷ v) = refl

-- a run, and behind it after k zeros another: both at once
pub xors_behind : (s a : Bytes) (k : ℕ) (b : Bytes) → xors (xors s a) (placed (length a + k) b) ≡ xors s (a ++ placed k b)
xors_behind [] a k b = refl
xors_behind (x ∷ s) [] k b = rw zero-add refl
xors_behind (x ∷ s) (y ∷ a) k b = rw suc-add (ap₂ (λ (z : ℕ) (l : Bytes). z ∷ l) (xor_zero_r (bit_xor x y)) (xors_behind s a k b))

-- with zeros at the end
pub xors_end : (s a : Bytes) (k : ℕ) → xors s (a ++ replicate k 0) ≡ xors s a
xors_end [] a k = refl
xors_end (x ∷ s) [] k = xors-zeros (x ∷ s) k
xors_end (x ∷ s) (y ∷ a) k = ap (λ (l : Bytes). bit_xor x y ∷ l) (xors_end s a k)

-- into the front of a longer run, and past a run's end
pub xors_front : (a r v : Bytes) → length v ≤ length a → xors (a ++ r) v ≡ xors a v ++ r
xors_front [] r [] h = xors_nil r
xors_front [] r (y ∷ v) h = absurd (omega arith)
xors_front (x ∷ a) r [] h = refl
xors_front (x ∷ a) r (y ∷ v) h = ap (λ (l : Bytes). bit_xor x y ∷ l) (xors_front a r v (omega arith))

pub xors_skip : (a r v : Bytes) → xors (a ++ r) (placed (length a) v) ≡ a ++ xors r v
xors_skip [] r v = refl
xors_skip (x ∷ a) r v = ap₂ (λ (z : ℕ) (l : Bytes). z ∷ l) (xor_zero_r x) (xors_skip a r v)

-- the key stream, run by run
xors_split : (a b d : Bytes) → length a ≤ length d → xors (a ++ b) d ≡ xors a d ++ xors b (drop (length a) d)
xors_split [] b d h = refl
xors_split (x ∷ a) b [] h = absurd (omega arith)
xors_split (x ∷ a) b (y ∷ d) h = ap (λ (l : Bytes). bit_xor x y ∷ l) (xors_split a b d (omega arith))

pub mask_append : (s : Bytes) (p : ℕ) (a b : Bytes) → p + length a ≤ length s → mask s p (a ++ b) ≡ mask s p a ++ mask s (p + length a) b
mask_append s p a b h = rw (← drop-drop (length a) p s) (xors_split a b (drop p s) (rw length-drop (omega arith)))

-- the key stream alone: zeros masked
pub mask-zeros : (s : Bytes) (n : ℕ) → n ≤ length s → mask s 0 (replicate n 0) ≡ take n s
mask-zeros s zero h = refl
mask-zeros [] (suc n) h = absurd (omega arith)
mask-zeros (x ∷ s) (suc n) h = ap₂ (λ (a : ℕ) (l : Bytes). a ∷ l) (xor_zero_l x) (mask-zeros s n (omega arith))
