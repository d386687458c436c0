-- The blocks are of the rate.
use Rattle.std.proofs.Common.{◌≡◌}
use Rattle.std.specs.Slice.Iter.{chunks_mut_size}
use Rattle.world.proofs.sponge.hash.Given as goal

abbrev pub invariant-loop-block : goal.invariant-loop-block
invariant-loop-block l = record {
  can : (goal.iterator-loop-block).can_next l.block-iterator;
  ends : (goal.iterator-loop-block).is_finite l.block-iterator;
  size : chunks_mut_size l.block-iterator ≡ l.kind.rate;
}
