-- The proof that `keyak::work::begin` meets its contract.
use mathlib.Core.Path.{◌∙◌}
use Rattle.calls.proofs.Meets.{begun_untagged, begun_produced, begun-checked}
use Rattle.keyak.specs.Keyak.{kind, records}
use Rattle.keyak.proofs.work.begin.Goals as goal

pub returns-in-None : goal.returns-in-None
returns-in-None g c =
    c.done.ensures _ _ ∙ begun_untagged (records (kind g.L.Lanes.L g.L.Lanes.BYTES g.L.Lanes.lanes g.L.Lanes.of_lanes)) c.of_start-ran.ensures _ c.in-None.is

pub returns-in-Produced : goal.returns-in-Produced
returns-in-Produced g c =
    c.done-in-Produced.ensures _ _
    ∙ rw c.give_tag.ensures (begun_produced (records (kind g.L.Lanes.L g.L.Lanes.BYTES g.L.Lanes.lanes g.L.Lanes.of_lanes)) c.of_start-ran.ensures _ c.in-Produced.is)

pub returns-in-Checked : goal.returns-in-Checked
returns-in-Checked g c =
    c.judged.ensures _ _
    ∙ rw c.tag_is-right.ensures (begun-checked (records (kind g.L.Lanes.L g.L.Lanes.BYTES g.L.Lanes.lanes g.L.Lanes.of_lanes)) c.of_start-ran.ensures _ c.in-Checked.is)
