-- The record of a session as a kind of record of the calls' definitions, and the outcome of each call on it, at either width of a lane.
use Rattle.std.specs.Prelude.{Bool, true, false, List, [], ◌∷◌, ℕ, length, Err}
use Rattle.table.specs.Answers.{answer_of}
use Rattle.table.specs.Choices.{asked}
use Rattle.table.specs.declared.refusal.Refusal.{Refusal}
use Rattle.table.specs.declared.Phase.TheVariants.{Unstarted, Failed}
use Rattle.table.specs.declared.StartTag.{StartTag}
use Rattle.keccak.specs.State.{bytes, lanes_from, keccak_bytes}
use Rattle.lanes.specs.Width.{instance}
use Rattle.motorist.specs.Piston.{Bytes}
use Rattle.motorist.specs.Engine.{Ride}
use Rattle.motorist.specs.Motorist as motorist
use Rattle.motorist.specs.Motorist.{Message, tag}
use Rattle.slices.specs.Same.{same_bytes}
use Rattle.calls.specs.Session.{View, Records, zeroed, under_way}
use Rattle.calls.specs.Outcome as the-calls
use Rattle.calls.specs.Outcome.{Outcome}
use Rattle.calls.specs.Allowed.{Allowed, AllowedStart}
use Rattle.calls.specs.Ends as ends
use Rattle.keyak.specs.declared.Session.{Session}
use Rattle.keyak.specs.declared.Turn.{Turn}

-- a kind of lanes S: 2 ^ l bits a lane, which are w bytes; S as 25 numbers, and back
pub record Kind (S : Type 0) : Type 0 where
  pub l : ℕ
  pub w : ℕ
  pub lanes : S → List ℕ
  pub of_lanes : List ℕ → S

abbrev pub kind : {S : Type 0} (l w : ℕ) → (S → List ℕ) → (List ℕ → S) → Kind S
kind l w there back = record { l = l; w = w; lanes = there; of_lanes = back }

-- what a call gave back, beside the lent output and the tag buffer as they then are: the answer in the client's numbers
abbrev pub outcome : {S : Type 0} → Turn S → (out g : Bytes) → Outcome (Session S)
outcome r out g = record { answer = answer_of r.answer; session = r.session; out = out; tag = g }

abbrev pub message : (text meta : Bytes) → Bool → Message
message text meta forgets = record { text = text; meta = meta; forgets = forgets }

-- what no rule refuses, below the thin calls
abbrev pub allowed : {S : Type 0} → Session S → Message → (out g : Bytes) → Type 0
allowed x m out g = Allowed x.phase x.at (length m.text) (length m.meta) (length out) (length g)

abbrev pub allowed_start : (key nonce : Bytes) → StartTag → Bytes → Type 0
allowed_start key nonce choice g = AllowedStart (length key) (length nonce) choice (length g)

-- refused: the answer says why, and the session is x
abbrev pub refused_turn : {S : Type 0} → Refusal → Session S → Turn S
refused_turn why x = record { answer = Err why; session = x }

-- the ride of a start
abbrev pub start_ride : ℕ → (key nonce : Bytes) → Bool → StartTag → Ride
start_ride l key nonce forgets choice =
    motorist.start (instance l) (keccak_bytes l 12) (record { key = key; nonce = nonce; tagged = asked choice; forgets = forgets })

module _ {S : Type 0} (K : Kind S) where
  -- ---- the record: its bytes are those of its lanes
  abbrev pub view_of : Session S → View
  view_of x = record { phase = x.phase; state = bytes K.w (K.lanes x.lanes); at = x.at }

  -- the record that is to show v: for the three constructors alone
  abbrev pub record_of : View → Session S
  record_of v = record { lanes = K.of_lanes (lanes_from K.w 25 v.state); phase = v.phase; at = v.at }

  abbrev pub unstarted : Session S
  unstarted = record_of (zeroed (instance K.l) Unstarted)

  abbrev pub failed : Session S
  failed = record_of (zeroed (instance K.l) Failed)

  abbrev pub riding : Bytes → ℕ → Session S
  riding s at = record_of (under_way s at)

  abbrev pub records : Records (Session S)
  records = record { shows = view_of; unstarted = unstarted; failed = failed; riding = riding }

  -- ---- the calls
  abbrev pub wrap_of : Session S → Message → (out g : Bytes) → Outcome (Session S)
  wrap_of = the-calls.wrap_of records (instance K.l) (keccak_bytes K.l 12)

  abbrev pub unwrap_of : Session S → Message → (g out : Bytes) → Outcome (Session S)
  unwrap_of = the-calls.unwrap_of records (instance K.l) (keccak_bytes K.l 12)

  abbrev pub start_of : (key nonce : Bytes) → Bool → StartTag → Bytes → Outcome (Session S)
  start_of = the-calls.start_of records (instance K.l) (keccak_bytes K.l 12)

  -- ---- the work of the calls, below the thin ones
  -- the ride of a message from lanes and a text start, unwrapped or wrapped
  abbrev pub ride : Bool → S → ℕ → Message → Ride
  ride decrypt x at m = motorist.message (instance K.l) (keccak_bytes K.l 12) decrypt (bytes K.w (K.lanes x) ∷ []) at m

  abbrev pub sealed : Session S → Message → Bytes → Outcome (Session S)
  sealed x m out = the-calls.wrapped records (ride false x.lanes x.at m) (length m.text) out

  abbrev pub unsealed : Session S → Message → (g out : Bytes) → Outcome (Session S)
  unsealed x c g out =
      let r : Ride = ride true x.lanes x.at c in
      the-calls.unwrapped records (same_bytes (tag r.states) g) r (length c.text) out g

  abbrev pub started : (key nonce : Bytes) → Bool → StartTag → Bytes → Outcome (Session S)
  started key nonce forgets choice g = the-calls.started records choice (start_ride K.l key nonce forgets choice) g

  -- ---- how a call ends: on these lanes the session goes on; or, by a tag that is right or not, goes on or is closed
  abbrev pub onward : Bool → S → (t n : ℕ) (out g : Bytes) → Outcome (Session S)
  onward tagged x t n out g = ends.onward records tagged (bytes K.w (K.lanes x)) t n out g

  abbrev pub judged : Bool → S → (t n : ℕ) (out g : Bytes) → Outcome (Session S)
  judged right x t n out g = ends.judged records right (bytes K.w (K.lanes x)) t n out g
