-- Lake's record, which is the one of Keyak.antt on 25 lanes of 64 bits, and the outcome of each call on it.
use Rattle.std.specs.Prelude.{Bool, List, ℕ}
use Rattle.table.specs.declared.StartTag.{StartTag}
use Rattle.motorist.specs.Piston.{Bytes}
use Rattle.motorist.specs.Motorist.{Message}
use Rattle.calls.specs.Session.{View, Records}
use Rattle.calls.specs.Outcome.{Outcome}
use Rattle.keyak.specs.Keyak as keyak
use Rattle.keyak.specs.Keyak.{Kind, kind}
use Rattle.keyak.specs.declared.Session as declared

-- lanes are an array, which is the list of its numbers
abbrev pub lake_kind : Kind (List ℕ)
lake_kind = kind 6 8 (λ x. x) (λ x. x)

abbrev pub Session : Type 0
Session = declared.Session (List ℕ)

abbrev pub view_of : Session → View
view_of = keyak.view_of lake_kind

abbrev pub record_of : View → Session
record_of = keyak.record_of lake_kind

abbrev pub unstarted : Session
unstarted = keyak.unstarted lake_kind

abbrev pub failed : Session
failed = keyak.failed lake_kind

abbrev pub riding : Bytes → ℕ → Session
riding = keyak.riding lake_kind

abbrev pub records : Records Session
records = keyak.records lake_kind

abbrev pub wrap_of : Session → Message → (out g : Bytes) → Outcome Session
wrap_of = keyak.wrap_of lake_kind

abbrev pub unwrap_of : Session → Message → (g out : Bytes) → Outcome Session
unwrap_of = keyak.unwrap_of lake_kind

abbrev pub start_of : (key nonce : Bytes) → Bool → StartTag → Bytes → Outcome Session
start_of = keyak.start_of lake_kind
