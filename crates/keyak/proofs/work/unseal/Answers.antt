-- The proof that `keyak::work::unseal` meets its contract.
use mathlib.Core.Path.{◌∙◌}
use Rattle.std.proofs.Common.{rules}
use Rattle.calls.proofs.Meets.{unwrapped_is}
use Rattle.keyak.specs.Keyak.{kind, records}
use Rattle.keyak.proofs.work.unseal.Goals as goal

pub returns : goal.returns
returns g c =
    c.judged.ensures _ _ ∙ rw (c.withhold.ensures, c.tag_is-right.ensures)
    (unwrapped_is (records (kind g.L.Lanes.L g.L.Lanes.BYTES g.L.Lanes.lanes g.L.Lanes.of_lanes)) c.of_message-ran.ensures _ (search rules) (search rules))
