-- The proof that `keyak::Session::unwrap` meets its contract.
use mathlib.Core.Path.{◌∙◌, refl}
use Rattle.table.proofs.Answers.{refused_above}
use Rattle.lanes.specs.Width.{instance}
use Rattle.keccak.specs.State.{keccak_bytes}
use Rattle.calls.proofs.Meets.{unwrap-refused, unwrap_done}
use Rattle.keyak.specs.Keyak.{kind, records}
use Rattle.keyak.proofs.Session.unwrap.Goals as goal

pub returns-in-Ok : goal.returns-in-Ok
returns-in-Ok g c =
    c.unseal.ensures ∙ unwrap_done (records (kind g.L.Lanes.L g.L.Lanes.BYTES g.L.Lanes.lanes g.L.Lanes.of_lanes)) (instance g.L.Lanes.L) (keccak_bytes g.L.Lanes.L 12) _ _ _ _ c.refusal.ensures (rw c.in-Ok.is refl)

pub returns-in-Err : goal.returns-in-Err
returns-in-Err g c =
    rw c.refused.ensures (unwrap-refused (records (kind g.L.Lanes.L g.L.Lanes.BYTES g.L.Lanes.lanes g.L.Lanes.of_lanes)) (instance g.L.Lanes.L) (keccak_bytes g.L.Lanes.L 12) _ _ _ _ (rw c.in-Err.is at c.refusal.ensures)
    (refused_above c.in-Err.why))
