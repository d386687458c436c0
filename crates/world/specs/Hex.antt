-- Bytes in hexadecimal: two digits a byte, the high one first.
use Rattle.std.specs.Prelude.{ℕ, ◌/◌, ◌%◌, List, [], ◌∷◌, slice_index}

-- 0 to 9, a to f
abbrev pub digits : List ℕ
digits = 48 ∷ 49 ∷ 50 ∷ 51 ∷ 52 ∷ 53 ∷ 54 ∷ 55 ∷ 56 ∷ 57 ∷ 97 ∷ 98 ∷ 99 ∷ 100 ∷ 101 ∷ 102 ∷ []

-- the digit of n modulo 16
abbrev pub digit_of : ℕ → ℕ
digit_of n = slice_index digits (n % 16)

unfoldable pub hex_of : List ℕ → List ℕ
hex_of [] = []
hex_of (b ∷ s) = digit_of (b / 16) ∷ digit_of b ∷ hex_of s
