-- So many of the turns are done.
use Rattle.keyak.specs.Keyak.{kind}
use Rattle.bench.specs.Lent.{lent}
use Rattle.bench.specs.Over.{wrapping}
use Rattle.bench.proofs.Turns.{Turned}
use Rattle.bench.proofs.over.wraps.Given as goal

abbrev pub invariant-loop : goal.invariant-loop
invariant-loop g l =
    let w = g.L.Lanes in
    Turned (wrapping (kind w.L w.BYTES w.lanes w.of_lanes) l.begun l.text l.meta) l.times (lent 0 l.initial.out l.initial.tag) l.counter (lent l.runs l.out l.tag)
