-- What agreed and what differed among the comparisons that the loop has taken.
use Rattle.std.proofs.Common.{◌≡◌, ◌%◌, ◌^◌, Bool, not, count_by}
use Rattle.trials.proofs.tally.Tally.of.Given as goal

abbrev pub invariant-loop-same : goal.invariant-loop-same
invariant-loop-same g l = record {
  can : (goal.iterator-loop-same g).can_next l.same-iterator;
  ends : (goal.iterator-loop-same g).is_finite l.same-iterator;
  agreed : l.tally.agreed ≡ count_by (λ (x : Bool). x) l.yielded % 2 ^ 64;
  differed : l.tally.differed ≡ count_by not l.yielded % 2 ^ 64;
}
