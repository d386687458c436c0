-- `count`: each month puts at most one name.
use Rattle.std.proofs.Common.{length, ◌≤◌}
use Rattle.year_text.proofs.names.count.Given as goal

abbrev pub invariant-loop-month : goal.invariant-loop-month
invariant-loop-month l = length l.names.items ≤ l.month-index
