-- KECCAK-p[b, n] bit by bit, as document 003 states it in section 2.1: b = 25 w, and w = 2 ^ l for any l.
-- A bit is 0 or 1; sums and products of bits are taken modulo 2.
use Rattle.std.specs.Prelude.{ℕ, zero, suc, ◌+◌, ◌-◌, ◌*◌, ◌/◌, ◌%◌, ◌^◌, Bool, true, false, ◌&&◌, eqb, ltb}
use Rattle.std.specs.Int.Bits.{bit_xor}

-- the state a[5, 5, w]: a x y z is the bit at position (x, y, z), x and y below 5 and z below w
abbrev pub State : Type 0
State = ℕ → ℕ → ℕ → ℕ

-- f 0 + .. + f (n - 1)
abbrev pub sum : ℕ → (ℕ → ℕ) → ℕ
sum zero f = 0
sum (suc n) f = f n + sum n f

-- n where the test holds, else 0
abbrev pub when : Bool → ℕ → ℕ
when true n = n
when false n = 0

-- z - k modulo w
abbrev pub back : ℕ → ℕ → ℕ → ℕ
back w z k = (z + (w - k % w)) % w

-- θ: a[x, y, z] ← a[x, y, z] + Σ a[x - 1, y', z] + Σ a[x + 1, y', z - 1], the sums over y' = 0 .. 4
unfoldable pub theta : ℕ → State → State
theta w a x y z = (a x y z + sum 5 (λ y'. a ((x + 4) % 5) y' z) + sum 5 (λ y'. a ((x + 1) % 5) y' (back w z 1))) % 2

-- a column (x; y) over GF(5), and (0 1; 2 3) (x; y)
pub record Place : Type 0 where
  pub x : ℕ
  pub y : ℕ

abbrev pub times : Place → Place
times p = record { x = p.y; y = (2 * p.x + 3 * p.y) % 5 }

-- (0 1; 2 3) ^ t (1; 0)
abbrev pub place : ℕ → Place
place zero = record { x = 1; y = 0 }
place (suc t) = times (place t)

-- (t + 1)(t + 2) / 2 for the t, 0 ≤ t < 24, whose place is (x; y); 0 for x = y = 0, which is the place of none
abbrev pub offset : ℕ → ℕ → ℕ
offset x y = sum 24 (λ t. when (eqb (place t).x x && eqb (place t).y y) ((t + 1) * (t + 2) / 2))

-- ρ: a[x, y, z] ← a[x, y, z - (t + 1)(t + 2) / 2]
unfoldable pub rho : ℕ → State → State
rho w a x y z = a x y (back w z (offset x y))

-- π: a[x, y] ← a[x', y'] with (x; y) = (0 1; 2 3) (x'; y'), that is x' = x + 3 y and y' = x
unfoldable pub pi : State → State
pi a x y z = a ((x + 3 * y) % 5) x z

-- χ: a[x] ← a[x] + (a[x + 1] + 1) a[x + 2]
unfoldable pub chi : State → State
chi a x y z = (a x y z + (a ((x + 1) % 5) y z + 1) * a ((x + 2) % 5) y z) % 2

-- a polynomial over GF(2) is the number whose bit i is the coefficient of x^i: one of degree 8 at most, modulo
-- x^8 + x^6 + x^5 + x^4 + 1, where the test says whether its degree is below 8
abbrev pub reduce : Bool → ℕ → ℕ
reduce true n = n
reduce false n = bit_xor n 0b101110001

-- x^t modulo x^8 + x^6 + x^5 + x^4 + 1
abbrev pub power : ℕ → ℕ
power zero = 1
power (suc t) = let n = 2 * power t in reduce (ltb n 256) n

-- rc[t] = (x^t mod x^8 + x^6 + x^5 + x^4 + 1) mod x
abbrev pub rc : ℕ → ℕ
rc t = power t % 2

-- RC[r][0, 0, z]: rc[j + 7 r] where z = 2^j - 1 for a j, 0 ≤ j ≤ l, else 0
abbrev pub constant_bit : ℕ → ℕ → ℕ → ℕ
constant_bit l r z = sum (suc l) (λ j. when (eqb z (2 ^ j - 1)) (rc (j + 7 * r))) % 2

-- ι: a ← a + RC[r], where RC[r][x, y] is zero but for x = y = 0
unfoldable pub iota : ℕ → ℕ → State → State
iota l r a x y z = (a x y z + when (eqb x 0 && eqb y 0) (constant_bit l r z)) % 2

-- R = ι ∘ χ ∘ π ∘ ρ ∘ θ, the round of index r
unfoldable pub round : ℕ → ℕ → State → State
round l r a = iota l r (chi (pi (rho (2 ^ l) (theta (2 ^ l) a))))

-- KECCAK-p[b, n]: the last n rounds of KECCAK-f[b], of index 12 + 2 l - n to 12 + 2 l - 1
unfoldable pub keccak_p : ℕ → ℕ → State → State
keccak_p l zero a = a
keccak_p l (suc n) a = keccak_p l n (round l (12 + 2 * l - suc n) a)
