-- The first j lanes' worth of s is out, and the rest of the output is as it was.
use Rattle.std.proofs.Common.{◌≡◌, ◌*◌, ◌++◌, length, take, drop}
use Rattle.keccak.specs.State.{bytes}
use Rattle.motorist.specs.Piston.{mask}
use Rattle.piston.proofs.stream.Given as goal

abbrev pub invariant-loop-j : goal.invariant-loop-j
invariant-loop-j g l =
    let w = g.L.Lanes in
    (length l.out ≡ length l.initial.out) × (l.out ≡ mask (bytes w.BYTES (w.lanes l.lanes)) (w.BYTES * l.q) (take (w.BYTES * l.j) l.s) ++ drop (w.BYTES * l.j) l.initial.out)
