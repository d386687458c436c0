-- The proof that `keyak::work::seal` meets its contract.
use mathlib.Core.Path.{◌∙◌}
use Rattle.calls.proofs.Meets.{wrapped_is}
use Rattle.keyak.specs.Keyak.{kind, records}
use Rattle.keyak.proofs.work.seal.Goals as goal

pub returns : goal.returns
returns g c = c.done.ensures _ _ ∙ rw c.give_tag.ensures (wrapped_is (records (kind g.L.Lanes.L g.L.Lanes.BYTES g.L.Lanes.lanes g.L.Lanes.of_lanes)) c.of_message-ran.ensures)
