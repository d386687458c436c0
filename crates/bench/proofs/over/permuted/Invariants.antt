-- So many of the turns are done.
use Rattle.std.proofs.Common.{◌+◌, ◌*◌}
use Rattle.keccak.specs.Permutes.{permuted}
use Rattle.bench.proofs.Turns.{Turned}
use Rattle.bench.proofs.over.permuted.Given as goal

abbrev pub invariant-loop : goal.invariant-loop
invariant-loop g l = let w = g.L.Lanes in Turned (permuted w.L (12 + 2 * w.L)) l.times (w.lanes l.initial.after) l.counter (w.lanes l.after)
