-- The bits of a number: bit z of it, the number that has given bits, and a number of w bits rotated.
use Rattle.std.specs.Prelude.{ℕ, zero, suc, ◌+◌, ◌-◌, ◌*◌, ◌/◌, ◌%◌, ◌^◌}
use Rattle.std.specs.Int.Bits.{bit_or}

-- bit z of n
unfoldable pub bit : ℕ → ℕ → ℕ
bit n z = n / 2 ^ z % 2

-- the number of w bits whose bit z is f z
abbrev pub value : ℕ → (ℕ → ℕ) → ℕ
value zero f = 0
value (suc w) f = f 0 + 2 * value w (λ z. f (suc z))

-- n, a number of w bits, rotated left by k
abbrev pub rot : ℕ → ℕ → ℕ → ℕ
rot w zero n = n
rot w (suc k) n = bit_or (n * 2 ^ suc k % 2 ^ w) (n / 2 ^ (w - suc k))
