-- The three demands at River, on its records. The outcomes that they speak of are those which the methods start, wrap and unwrap of `keyak::River` ensure:
-- `start_of`, `wrap_of` and `unwrap_of` at River's records.
use mathlib.Core.Path.{◌≡◌, refl, ◌∙◌}
use native.Mathlib.Omega.{arith}
use Rattle.std.specs.Prelude.{Bool}
use Rattle.table.specs.declared.StartTag.{StartTag}
use Rattle.lanes.specs.Width.{instance}
use Rattle.keccak.proofs.State.{bytes-lanes, keccak_bytes-length}
use Rattle.motorist.specs.Instance.{river}
use Rattle.motorist.specs.Keyak.{river_f}
use Rattle.motorist.proofs.Instances.{river_sound, river_counts}
use Rattle.motorist.proofs.Keyak.{river_gives}
use Rattle.motorist.specs.Shape.{State}
use Rattle.motorist.specs.Piston.{Bytes}
use Rattle.motorist.specs.Motorist.{Message}
use Rattle.calls.specs.Session.{View, Serves}
use Rattle.calls.specs.Outcome as the-calls
use Rattle.calls.specs.Promises.{Total, Right, Partner, Story}
use Rattle.calls.proofs.Closed.{total}
use Rattle.calls.proofs.Right.{right}
use Rattle.calls.proofs.Partner.{Long, partner}
use Rattle.calls.proofs.Story.{story}
use Rattle.keyak.specs.River.{river_kind, Session, view_of, record_of, records, start_of, wrap_of, unwrap_of}
use Rattle.promises.proofs.Zeros.{zeros}

-- ---- River by name: what its methods ensure, of 25 lanes of 32 bits, is what the demands speak of, of the instance and the permutation of Keyak
pub river_is : instance river_kind.l ≡ river
river_is = refl

pub river_starts : (key nonce : Bytes) (forgets : Bool) (choice : StartTag) (g : Bytes) → start_of key nonce forgets choice g ≡ the-calls.start_of records river river_f key nonce forgets choice g
river_starts key nonce forgets choice g = refl

pub river_wraps : (x : Session) (m : Message) (out g : Bytes) → wrap_of x m out g ≡ the-calls.wrap_of records river river_f x m out g
river_wraps x m out g = refl

pub river_unwraps : (x : Session) (c : Message) (g out : Bytes) → unwrap_of x c g out ≡ the-calls.unwrap_of records river river_f x c g out
river_unwraps x c g out = refl

-- ---- River's records serve it: each constructor's record shows what it should
river_shows : (v : View) → State river v.state → view_of (record_of v) ≡ v
river_shows v h = rw (bytes-lanes 4 25 v.state (h.long ∙ river_counts.state_is) h.small) refl

pub river_serves : Serves records river river_f
river_serves =
    record { unstarted = river_shows _ (zeros river); failed = river_shows _ (zeros river); riding = λ x at. river_shows _ (river_gives x) }

river_long : Long river_f
river_long s = rw (keccak_bytes-length 5 12 s) (omega arith)

-- ---- the demands
pub river_total : Total records river river_f
river_total = total records river river_f river_serves

pub river_right : Right records river river_f
river_right = right river_sound river_f records river_serves

pub river_partner : Partner records river river_f
river_partner = partner river_sound river_f river_long records

pub river_story : Story records river river_f
river_story = story river_sound river_f records river_serves
