-- The state of the unstarted and the failed record, all zero, is a state of its instance.
use lib.ListN.{replicate, length-replicate}
use Rattle.motorist.specs.Instance.{Instance, state_length}
use Rattle.motorist.specs.Shape.{State}
use Rattle.endian.proofs.Small.{small_zeros}

pub zeros : (i : Instance) → State i (replicate (state_length i) 0)
zeros i = record { long = length-replicate (state_length i) 0; small = small_zeros (state_length i) }
