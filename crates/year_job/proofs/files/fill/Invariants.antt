-- `fill`: no more is read than there is room for.
use Rattle.std.proofs.Common.{length, ◌-◌, ◌≤◌}
use Rattle.year_job.proofs.files.fill.Given as goal

abbrev pub invariant-loop-done : goal.invariant-loop-done
invariant-loop-done g l = l.done ≤ length l.room

abbrev pub decreases-loop-done : goal.decreases-loop-done
decreases-loop-done g l = length l.room - l.done
