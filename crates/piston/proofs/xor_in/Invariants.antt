-- The first j lanes' worth of s is in, and there are 25 lanes still.
use Rattle.std.proofs.Common.{◌≡◌, ◌*◌, length, take}
use Rattle.keccak.specs.State.{bytes}
use Rattle.motorist.specs.Piston.{xors}
use Rattle.piston.specs.Placed.{placed}
use Rattle.piston.proofs.xor_in.Given as goal

abbrev pub invariant-loop-j : goal.invariant-loop-j
invariant-loop-j g l =
    let w = g.L.Lanes in
    (length (w.lanes l.lanes) ≡ 25) × (bytes w.BYTES (w.lanes l.lanes) ≡ xors (bytes w.BYTES (w.lanes l.initial.lanes)) (placed (w.BYTES * l.q) (take (w.BYTES * l.j) l.s)))
