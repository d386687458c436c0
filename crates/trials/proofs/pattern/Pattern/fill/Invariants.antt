-- The bytes that the loop has passed are the pattern's.
use Rattle.std.proofs.Common.{◌≡◌, ◌<◌, ℕ, slice_index}
use Rattle.trials.specs.Byte.{byte_at}
use Rattle.trials.proofs.pattern.Pattern.fill.Given as goal

abbrev pub invariant-loop-i : goal.invariant-loop-i
invariant-loop-i l = (k : ℕ) → k < l.i → slice_index l.into k ≡ byte_at l.self.first l.self.step l.self.period l.self.lift k
