-- The bytes that the loop has passed all have their marks, or not.
use Rattle.std.proofs.Common.{◌≡◌, ◌<◌, ◌+◌, ◌↔◌, ℕ, IsTrue, slice_index}
use Rattle.vectors.specs.Mark.{mark}
use Rattle.vectors.proofs.guard.are_marked.Given as goal

abbrev pub invariant-loop-i : goal.invariant-loop-i
invariant-loop-i l = IsTrue l.all ↔ ((k : ℕ) → k < l.i → slice_index l.bytes k ≡ mark (l.from + k))
