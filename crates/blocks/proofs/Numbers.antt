-- What the proofs of the code ask of a width, beside what its record says.
use Prim.Native.Nat.{ℕ, ◌+◌, ◌*◌, ◌%◌, ◌≤◌}
use native.Mathlib.Omega.{arith}
use native.Mathlib.Nat.{zero-mod}
use mathlib.Core.Path.{◌≡◌, sym, ap}
use lib.ListN.{replicate}
use Rattle.motorist.specs.Instance.{state_length, full_rate}
use Rattle.lanes.specs.Width.{Width, instance}

module _ {l w : ℕ} (width : Width l w) where
  -- the offset bytes lie in the state
  pub room : full_rate (instance l) + 4 ≤ w * 25
  room = omega (arith, width.sound.offsets_fit, width.state)

  pub zero_lane : 0 % w ≡ 0
  zero_lane = zero-mod w

  -- 25 lanes of zeros are the state that a session starts from
  pub zero_state : replicate {A = ℕ} (w * 25) 0 ≡ replicate (state_length (instance l)) 0
  zero_state = ap (λ (n : ℕ). replicate n 0) (sym width.state)
