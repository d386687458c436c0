-- What code shows of a ride, no part of 003: the words in which the contracts of the code are told.
use Rattle.std.specs.Prelude.{◌≡◌, [], ◌∷◌, ◌++◌, ℕ, length, drop}
use Rattle.motorist.specs.Piston.{Bytes}
use Rattle.motorist.specs.Engine.{Ride}

-- with one Piston, of a ride of t bytes of text: the state s, the runs n, and the output o, which was lent holding d
pub record Rode (r : Ride) (t : ℕ) (d s o : Bytes) (n : ℕ) : Type 0 where
  pub states : s ∷ [] ≡ r.states
  pub output : o ≡ r.output ++ drop t d
  pub runs : n ≡ length r.blocks
