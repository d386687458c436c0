-- `seal_all`: each month puts one packet.
use Rattle.std.proofs.Common.{length, ◌≤◌}
use Rattle.year_job.proofs.sealing.seal_all.Given as goal

abbrev pub invariant-loop-month : goal.invariant-loop-month
invariant-loop-month g l = length l.sealed.items ≤ l.month-index
