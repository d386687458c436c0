-- where the text starts is the first block's place
use Rattle.keccak.specs.State.{bytes, keccak_bytes}
use Prim.Native.Nat.{◌*◌, ◌^◌}
use lib.ListN.{length}
use Rattle.plan.proofs.Walk.{Stage, ahead}
use Rattle.engine.proofs.group.Given as goal

abbrev pub invariant-loop-going : goal.invariant-loop-going
invariant-loop-going g l =
    Stage (25 * 2 ^ g.L.Lanes.L) 256 (2 ^ g.L.Lanes.L) g.met.L.Lanes.width.sound g.L.Lanes.BYTES (keccak_bytes g.L.Lanes.L 12) l.decrypt (bytes g.L.Lanes.BYTES (g.L.Lanes.lanes l.initial.state)) l.initial.cut.at.0 l.text l.meta l.eom l.initial.out l.going (bytes g.L.Lanes.BYTES (g.L.Lanes.lanes l.state)) l.out l.runs l.cut

abbrev pub decreases-loop-going : goal.decreases-loop-going
decreases-loop-going g l = ahead (length l.text) (length l.meta) l.going l.cut
