-- `capped`: one digit more never overflows, since the number so far is at most the limit.
use Rattle.std.proofs.Common.{◌≤◌}
use Rattle.decimal.proofs.capped.Given as goal

abbrev pub invariant-loop-b : goal.invariant-loop-b
invariant-loop-b l = l.value ≤ l.top
