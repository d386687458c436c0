-- What is left of the rounds, on the lanes so far, is all of them on the lanes at the start.
use Rattle.std.proofs.Common.{◌≡◌, ◌-◌, ◌≤◌}
use Rattle.keccak.specs.Lanes.{rounds_l}
use Rattle.permutation.proofs.run.Given as goal

abbrev pub invariant-loop-k : goal.invariant-loop-k
invariant-loop-k g l =
    let w = g.L.Lanes in
    (l.k-index ≤ l.rounds) × (rounds_l w.L (l.rounds - l.k-index) (w.lanes l.after) ≡ rounds_l w.L l.rounds (w.lanes l.initial.after))
