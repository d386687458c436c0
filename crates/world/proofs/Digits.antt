-- Pairs of hexadecimal digits compared byte by byte, from the front.
use Rattle.std.proofs.Common.{◌≡◌, ℕ, ◌*◌, ◌/◌, true, Bool, eqb, List, [], ◌∷◌, length, refl, ap₂, arith, eqb-true}
use Rattle.std.specs.List.{zip, list_all}
use Rattle.std.specs.Simd.{first_chunks}
use Rattle.std.specs.Cmp.Lexicographic.{pointwise}
use Rattle.slices.proofs.Bools.{and_both}
use Rattle.world.specs.Hex.{digit_of, hex_of}

-- whether a pair is the digits of a byte
abbrev pub is_pair_of : ℕ × List ℕ → Bool
is_pair_of p = pointwise eqb p.1 (digit_of (p.0 / 16) ∷ digit_of p.0 ∷ [])

-- all pairs agreed
pub hex_all : (got hex : List ℕ) → length hex ≡ 2 * length got → list_all is_pair_of (zip got (first_chunks 2 (length got) hex)) ≡ true → hex ≡ hex_of got
unfolding hex_of
hex_all [] [] h t = refl
hex_all [] (x ∷ hex) h t = absurd (omega (arith, h))
hex_all (b ∷ got) [] h t = absurd (omega (arith, h))
hex_all (b ∷ got) (x ∷ []) h t = absurd (omega (arith, h))
hex_all (b ∷ got) (x ∷ y ∷ hex) h t =
    let p = and_both _ _ t in
    let q = and_both (eqb x (digit_of (b / 16))) _ p.0 in
    let r = and_both (eqb y (digit_of b)) _ q.1 in
    ap₂ (λ (a : ℕ) (l : List ℕ). a ∷ l) (eqb-true x _ q.0)
    (ap₂ (λ (a : ℕ) (l : List ℕ). a ∷ l) (eqb-true y _ r.0) (hex_all got hex (omega (arith, h)) p.1))
