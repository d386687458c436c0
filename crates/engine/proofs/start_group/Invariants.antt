-- The proof that `engine::start_group` meets its contract.
use Rattle.keccak.specs.State.{bytes, keccak_bytes}
use Rattle.lanes.specs.Width.{instance}
use Prim.Native.Nat.{◌*◌, ◌^◌}
use Prim.Native.Nat.{◌-◌}
use lib.ListN.{length}
use Rattle.motorist.specs.Instance.{pack_length}
use Rattle.plan.specs.Start.{start_bytes}
use Rattle.plan.proofs.Knots.{Starting}
use Rattle.engine.proofs.start_group.Given as goal

abbrev pub invariant-loop-full : goal.invariant-loop-full
invariant-loop-full g l = Starting (25 * 2 ^ g.L.Lanes.L) (2 ^ g.L.Lanes.L) 256 (keccak_bytes g.L.Lanes.L 12) g.met.L.Lanes.width.sound l.opening.key.now l.opening.nonce.now l.eom (bytes g.L.Lanes.BYTES (g.L.Lanes.lanes l.state)) l.done.0 l.runs

abbrev pub decreases-loop-full : goal.decreases-loop-full
decreases-loop-full g l = length (start_bytes (pack_length (instance g.L.Lanes.L)) l.opening.key.now l.opening.nonce.now) - l.done.0
