-- The steps of Keccak.antt on a list of 25 lanes, lane 5 y + x for column x and row y, each a number of w bits: the contracts of the code.
use Rattle.std.specs.Prelude.{List, [], ◌∷◌, ℕ, zero, suc, ◌+◌, ◌-◌, ◌*◌, ◌/◌, ◌%◌, ◌^◌, get_or, set}
use Rattle.std.specs.Int.Bits.{bit_xor, bit_and}
use Rattle.keccak.specs.Keccak.{State, constant_bit}
use Rattle.keccak.specs.Bits.{bit, value, rot}
use Rattle.keccak.specs.Tables.{offsets}

-- f i, .., f (i + n - 1)
abbrev pub from : ℕ → ℕ → (ℕ → ℕ) → List ℕ
from zero i f = []
from (suc n) i f = f i ∷ from n (suc i) f

-- lane (x, y) of a list, and the list whose lane (x, y) is f x y
abbrev pub lane : List ℕ → ℕ → ℕ → ℕ
lane s x y = get_or s (5 * y + x) 0

abbrev pub lanes : (ℕ → ℕ → ℕ) → List ℕ
lanes f = from 25 0 (λ i. f (i % 5) (i / 5))

-- a list of lanes as a state, and a state as a list of lanes of w bits
unfoldable pub bits : List ℕ → State
bits s x y z = bit (lane s x y) z

unfoldable pub lanes_of : ℕ → State → List ℕ
lanes_of w a = lanes (λ x y. value w (a x y))

-- θ
abbrev pub parity : List ℕ → ℕ → ℕ
parity s x = bit_xor (bit_xor (bit_xor (bit_xor (lane s x 0) (lane s x 1)) (lane s x 2)) (lane s x 3)) (lane s x 4)

abbrev pub theta_lane : ℕ → List ℕ → ℕ → ℕ → ℕ
theta_lane w s x y = bit_xor (lane s x y) (bit_xor (parity s ((x + 4) % 5)) (rot w (1 % w) (parity s ((x + 1) % 5))))

abbrev pub theta_l : ℕ → List ℕ → List ℕ
theta_l w s = lanes (theta_lane w s)

-- ρ, then π: the lane (x', y') that comes to (x, y), rotated by its offset
abbrev pub rho_pi_lane : ℕ → List ℕ → ℕ → ℕ → ℕ
rho_pi_lane w s x y = let x' = (x + 3 * y) % 5 in rot w (lane offsets x' x % w) (lane s x' x)

abbrev pub rho_pi_l : ℕ → List ℕ → List ℕ
rho_pi_l w s = lanes (rho_pi_lane w s)

-- χ
abbrev pub chi_lane : ℕ → List ℕ → ℕ → ℕ → ℕ
chi_lane w s x y = bit_xor (lane s x y) (bit_and ((2 ^ w - 1) - lane s ((x + 1) % 5) y) (lane s ((x + 2) % 5) y))

abbrev pub chi_l : ℕ → List ℕ → List ℕ
chi_l w s = lanes (chi_lane w s)

-- ι with the constant k
abbrev pub iota_l : ℕ → List ℕ → List ℕ
iota_l k s = set s 0 (bit_xor (get_or s 0 0) k)

-- a round with the constant k
unfoldable pub round_l : ℕ → ℕ → List ℕ → List ℕ
round_l w k s = iota_l k (chi_l w (rho_pi_l w (theta_l w s)))

-- RC[r] as a lane of 2 ^ l bits
unfoldable pub constant : ℕ → ℕ → ℕ
constant l r = value (2 ^ l) (constant_bit l r)

-- the last n rounds
unfoldable pub rounds_l : ℕ → ℕ → List ℕ → List ℕ
rounds_l l zero s = s
rounds_l l (suc n) s = rounds_l l n (round_l (2 ^ l) (constant l (12 + 2 * l - suc n)) s)
