-- Two runs of bytes are the same exactly where they are equal; and compared with no branch, by gathering the bits that differ.
use mathlib.Core.Path.{◌≡◌, refl, sym, ap, ap₂, ◌∙◌}
use mathlib.Core.Bool.{Bool, true, false, ◌&&◌}
use mathlib.Core.List.{List, [], ◌∷◌}
use Prim.Native.Nat.{ℕ}
use native.Mathlib.Decide.{ℕ_discrete}
use native.Mathlib.Omega.{arith}
use borrow.Author.Tests.{eq-eqb, ne_eqb, eqb-true}
use lib.Bits.{bit_or, bit_xor, or_add_and, xor_add_and, and_le_l, and_le_r, xor_self}
use lib.Dec.{eqb}
use lib.ListN.{length}
use Rattle.std.specs.List.{fold, zip}
use Rattle.slices.specs.Same.{same_bytes}
use Rattle.slices.proofs.Bools.{never, and_both}

-- ---- equal runs
pub same_refl : (xs : List ℕ) → same_bytes xs xs ≡ true
unfolding same_bytes
same_refl [] = refl
same_refl (x ∷ xs) = rw (eq-eqb x x refl) (same_refl xs)

pub same_equal : (xs ys : List ℕ) → same_bytes xs ys ≡ true → xs ≡ ys
unfolding same_bytes
same_equal [] [] e = refl
same_equal [] (y ∷ ys) e = never (sym e)
same_equal (x ∷ xs) [] e = never (sym e)
same_equal (x ∷ xs) (y ∷ ys) e =
    let h = and_both (eqb x y) (same_bytes xs ys) e in
    ap₂ (λ (a : ℕ) (l : List ℕ). a ∷ l) (eqb-true x y h.0) (same_equal xs ys h.1)

pub same_lengths : (xs ys : List ℕ) → (length xs ≡ length ys → ⊥) → same_bytes xs ys ≡ false
unfolding same_bytes
same_lengths [] [] n = absurd (n refl)
same_lengths [] (y ∷ ys) n = refl
same_lengths (x ∷ xs) [] n = refl
same_lengths (x ∷ xs) (y ∷ ys) n = rw (same_lengths xs ys (λ e. n (omega arith))) (and_false (eqb x y))
  where
    and_false : (b : Bool) → (b && false) ≡ false
    and_false true = refl
    and_false false = refl

-- ---- gathered bits
or_none : (a b : ℕ) → bit_or a b ≡ 0 → (a ≡ 0) × (b ≡ 0)
or_none a b e = omega (arith, or_add_and a b, and_le_l a b, and_le_r a b)

xor_none : (a b : ℕ) → bit_xor a b ≡ 0 → a ≡ b
xor_none a b e = omega (arith, xor_add_and a b, and_le_l a b, and_le_r a b)

gather : (d x y : ℕ) → Dec (d ≡ 0) → Dec (x ≡ y) → eqb (bit_or d (bit_xor x y)) 0 ≡ (eqb d 0 && eqb x y)
gather d x y (yes p) (yes q) = eq-eqb (bit_or d (bit_xor x y)) 0 (rw (p, q) (xor_self y)) ∙ sym (rw (eq-eqb d 0 p, eq-eqb x y q))
gather d x y (yes p) (no q) = ne_eqb (bit_or d (bit_xor x y)) 0 (λ e. q (xor_none x y (or_none d (bit_xor x y) e).1)) ∙ sym (rw (eq-eqb d 0 p, ne_eqb x y q))
gather d x y (no p) q = ne_eqb (bit_or d (bit_xor x y)) 0 (λ e. p (or_none d (bit_xor x y) e).0) ∙ sym (rw (ne_eqb d 0 p))

and_true : (b : Bool) → (b && true) ≡ b
and_true true = refl
and_true false = refl

and_assoc : (a b c : Bool) → (a && (b && c)) ≡ ((a && b) && c)
and_assoc true b c = refl
and_assoc false b c = refl

abbrev pub gather_bits : ℕ → ℕ × ℕ → ℕ
gather_bits d p = bit_or d (bit_xor p.0 p.1)

-- all of them gathered, behind the bits d that were gathered before
pub gathered : (xs ys : List ℕ) (d : ℕ) → length xs ≡ length ys → eqb (fold gather_bits d (zip xs ys)) 0 ≡ (eqb d 0 && same_bytes xs ys)
unfolding same_bytes
gathered [] [] d e = sym (and_true (eqb d 0))
gathered [] (y ∷ ys) d e = absurd (omega arith)
gathered (x ∷ xs) [] d e = absurd (omega arith)
gathered (x ∷ xs) (y ∷ ys) d e =
    gathered xs ys (bit_or d (bit_xor x y)) (omega arith)
    ∙ ap (λ (b : Bool). b && same_bytes xs ys) (gather d x y (ℕ_discrete d 0) (ℕ_discrete x y))
    ∙ sym (and_assoc (eqb d 0) (eqb x y) (same_bytes xs ys))
