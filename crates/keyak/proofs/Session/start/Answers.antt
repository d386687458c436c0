-- The proof that `keyak::Session::start` meets its contract.
use mathlib.Core.Path.{◌∙◌, refl}
use Rattle.table.proofs.Answers.{refused_above}
use Rattle.lanes.specs.Width.{instance}
use Rattle.keccak.specs.State.{keccak_bytes}
use Rattle.calls.proofs.Meets.{start_refused, start_done}
use Rattle.keyak.specs.Keyak.{kind, records}
use Rattle.keyak.proofs.Session.start.Goals as goal

pub returns-in-Ok : goal.returns-in-Ok
returns-in-Ok g c =
    c.begin.ensures ∙ start_done (records (kind g.L.Lanes.L g.L.Lanes.BYTES g.L.Lanes.lanes g.L.Lanes.of_lanes)) (instance g.L.Lanes.L) (keccak_bytes g.L.Lanes.L 12) _ _ _ _ _ c.start_refusal.ensures (rw c.in-Ok.is refl)

pub returns-in-Err : goal.returns-in-Err
returns-in-Err g c =
    rw (c.refused.ensures, c.unstarted.ensures)
    (start_refused (records (kind g.L.Lanes.L g.L.Lanes.BYTES g.L.Lanes.lanes g.L.Lanes.of_lanes)) (instance g.L.Lanes.L) (keccak_bytes g.L.Lanes.L 12) _ _ _ _ _ (rw c.in-Err.is at c.start_refusal.ensures) (refused_above c.in-Err.why))
