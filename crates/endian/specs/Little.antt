-- A number and its bytes, the lowest byte first.
use Rattle.std.specs.Prelude.{List, [], ◌∷◌, ℕ, zero, suc, ◌+◌, ◌*◌, ◌/◌, ◌%◌, ◌^◌}

-- the number whose bytes are vs
unfoldable pub from_bytes : List ℕ → ℕ
from_bytes [] = 0
from_bytes (v ∷ vs) = v + 2 ^ 8 * from_bytes vs

-- the n lowest bytes of x
unfoldable pub to_bytes : ℕ → ℕ → List ℕ
to_bytes zero x = []
to_bytes (suc n) x = x % 2 ^ 8 ∷ to_bytes n (x / 2 ^ 8)
