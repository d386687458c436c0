-- The proof that `lanes::narrow::ArrayU3225Lanes::zero` meets its contract.
use mathlib.Core.Path.{refl}
use Rattle.endian.specs.Little.{to_bytes}
use Rattle.keccak.specs.State.{bytes}
use Rattle.lanes.proofs.narrow.ArrayU3225Lanes.zero.Goals as goal

pub returns : goal.returns
unfolding bytes to_bytes
returns c = refl
