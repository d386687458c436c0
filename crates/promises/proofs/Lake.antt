-- The three demands at Lake, on its records. The outcomes that they speak of are those which the methods start, wrap and unwrap of `keyak::Lake` ensure:
-- `start_of`, `wrap_of` and `unwrap_of` at Lake's records.
use mathlib.Core.Path.{◌≡◌, refl, ◌∙◌}
use native.Mathlib.Omega.{arith}
use Rattle.std.specs.Prelude.{Bool}
use Rattle.table.specs.declared.StartTag.{StartTag}
use Rattle.lanes.specs.Width.{instance}
use Rattle.keccak.proofs.State.{bytes-lanes, keccak_bytes-length}
use Rattle.motorist.specs.Instance.{lake}
use Rattle.motorist.specs.Keyak.{lake_f}
use Rattle.motorist.proofs.Instances.{lake_sound, lake_counts}
use Rattle.motorist.proofs.Keyak.{lake_gives}
use Rattle.motorist.specs.Shape.{State}
use Rattle.motorist.specs.Piston.{Bytes}
use Rattle.motorist.specs.Motorist.{Message}
use Rattle.calls.specs.Session.{View, Serves}
use Rattle.calls.specs.Outcome as the-calls
use Rattle.calls.specs.Promises.{Total, Right, Partner, Story}
use Rattle.calls.proofs.Closed.{total}
use Rattle.calls.proofs.Right.{right}
use Rattle.calls.proofs.Partner.{Long, partner}
use Rattle.calls.proofs.Story.{story}
use Rattle.keyak.specs.Lake.{lake_kind, Session, view_of, record_of, records, start_of, wrap_of, unwrap_of}
use Rattle.promises.proofs.Zeros.{zeros}

-- ---- Lake by name: what its methods ensure, of 25 lanes of 64 bits, is what the demands speak of, of the instance and the permutation of Keyak
pub lake_is : instance lake_kind.l ≡ lake
lake_is = refl

pub lake_starts : (key nonce : Bytes) (forgets : Bool) (choice : StartTag) (g : Bytes) → start_of key nonce forgets choice g ≡ the-calls.start_of records lake lake_f key nonce forgets choice g
lake_starts key nonce forgets choice g = refl

pub lake_wraps : (x : Session) (m : Message) (out g : Bytes) → wrap_of x m out g ≡ the-calls.wrap_of records lake lake_f x m out g
lake_wraps x m out g = refl

pub lake_unwraps : (x : Session) (c : Message) (g out : Bytes) → unwrap_of x c g out ≡ the-calls.unwrap_of records lake lake_f x c g out
lake_unwraps x c g out = refl

-- ---- Lake's records serve it: each constructor's record shows what it should
lake_shows : (v : View) → State lake v.state → view_of (record_of v) ≡ v
lake_shows v h = rw (bytes-lanes 8 25 v.state (h.long ∙ lake_counts.state_is) h.small) refl

pub lake_serves : Serves records lake lake_f
lake_serves =
    record { unstarted = lake_shows _ (zeros lake); failed = lake_shows _ (zeros lake); riding = λ x at. lake_shows _ (lake_gives x) }

lake_long : Long lake_f
lake_long s = rw (keccak_bytes-length 6 12 s) (omega arith)

-- ---- the demands
pub lake_total : Total records lake lake_f
lake_total = total records lake lake_f lake_serves

pub lake_right : Right records lake lake_f
lake_right = right lake_sound lake_f records lake_serves

pub lake_partner : Partner records lake lake_f
lake_partner = partner lake_sound lake_f lake_long records

pub lake_story : Story records lake lake_f
lake_story = story lake_sound lake_f records lake_serves
