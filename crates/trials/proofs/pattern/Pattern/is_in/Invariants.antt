-- The bytes that the loop has passed are all the pattern's, or not.
use Rattle.std.proofs.Common.{◌≡◌, ◌<◌, ◌+◌, ◌↔◌, ℕ, IsTrue, slice_index}
use Rattle.trials.specs.Byte.{byte_at}
use Rattle.trials.proofs.pattern.Pattern.is_in.Given as goal

abbrev pub invariant-loop-i : goal.invariant-loop-i
invariant-loop-i l = IsTrue l.all ↔ ((k : ℕ) → k < l.i → slice_index l.bytes k ≡ byte_at l.self.first l.self.step l.self.period l.self.lift (l.from + k))
