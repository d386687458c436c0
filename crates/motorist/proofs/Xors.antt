-- Strings xored: they keep their length, and xored twice are as before.
use Prim.Native.Nat.{ℕ, zero, suc, ◌+◌, ◌*◌, ◌/◌, ◌%◌, ◌<◌}
use mathlib.Core.Path.{◌≡◌, refl, ap, ap₂, ◌∙◌}
use mathlib.Core.Bool.{Bool, true, false, not}
use mathlib.Core.List.{[], ◌∷◌}
use native.Mathlib.Omega.{arith}
use native.Mathlib.Nat.{div-add-mod', mod-lt}
use lib.Arith.{bin_ind}
use lib.Bits.{bit_xor, differ, xor_step, xor_shr, xor_mod, xor_self}
use lib.ListN.{length, drop}
use Rattle.motorist.specs.Piston.{Bytes, xors, mask, plain}

pub length-xors : (xs ys : Bytes) → length (xors xs ys) ≡ length xs
length-xors [] ys = refl
length-xors (x ∷ xs) [] = refl
length-xors (x ∷ xs) (y ∷ ys) = ap suc (length-xors xs ys)

-- ---- xored twice: of two bits, and by halves of all numbers
bit-bit : (x y : ℕ) → x < 2 → y < 2 → differ (bit_xor x y) y ≡ x
bit-bit zero zero hx hy = refl
bit-bit zero (suc zero) hx hy = refl
bit-bit (suc zero) zero hx hy = refl
bit-bit (suc zero) (suc zero) hx hy = refl
bit-bit zero (suc (suc y)) hx hy = absurd (omega arith)
bit-bit (suc zero) (suc (suc y)) hx hy = absurd (omega arith)
bit-bit (suc (suc x)) y hx hy = absurd (omega arith)

pub xor_xor : (a b : ℕ) → bit_xor (bit_xor a b) b ≡ a
xor_xor =
    bin_ind (λ (n : ℕ). (b : ℕ) → bit_xor (bit_xor n b) b ≡ n) xor_self
    (λ n ih b. xor_step (bit_xor n b) b
    ∙ ap₂ (λ (x y : ℕ). x * 2 + y) (ap (λ (x : ℕ). bit_xor x (b / 2)) (xor_shr n b 1) ∙ ih (b / 2))
    (ap (λ (x : ℕ). differ x (b % 2)) (xor_mod n b 1) ∙ bit-bit (n % 2) (b % 2) (mod-lt n (omega arith)) (mod-lt b (omega arith)))
    ∙ div-add-mod' n 2)

pub xors-xors : (xs ys : Bytes) → xors (xors xs ys) ys ≡ xs
xors-xors [] ys = refl
xors-xors (x ∷ xs) [] = refl
xors-xors (x ∷ xs) (y ∷ ys) = λ j. xor_xor x y j ∷ xors-xors xs ys j

-- the plaintext of what was put out, taken the other way, is the plaintext
pub plain-mask : (decrypt : Bool) (s : Bytes) (at : ℕ) (t : Bytes) → plain (not decrypt) s at (mask s at t) ≡ plain decrypt s at t
plain-mask false s at t = xors-xors t (drop at s)
plain-mask true s at t = refl

-- ---- a mask and a plaintext are as long as the text
pub length-mask : (s : Bytes) (at : ℕ) (t : Bytes) → length (mask s at t) ≡ length t
length-mask s at t = length-xors t (drop at s)

pub length-plain : (decrypt : Bool) (s : Bytes) (at : ℕ) (t : Bytes) → length (plain decrypt s at t) ≡ length t
length-plain false s at t = refl
length-plain true s at t = length-mask s at t
