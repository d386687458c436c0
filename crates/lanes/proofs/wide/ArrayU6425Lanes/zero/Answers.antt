-- The proof that `lanes::wide::ArrayU6425Lanes::zero` meets its contract.
use mathlib.Core.Path.{refl}
use Rattle.endian.specs.Little.{to_bytes}
use Rattle.keccak.specs.State.{bytes}
use Rattle.lanes.proofs.wide.ArrayU6425Lanes.zero.Goals as goal

pub returns : goal.returns
unfolding bytes to_bytes
returns c = refl
