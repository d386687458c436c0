-- What C finds after one call: the number answered, the lanes of the session that it gave back, and the lent output and tag buffer.
use Rattle.std.specs.Prelude.{ℕ, zero, suc, Bool, List}
use Rattle.table.specs.declared.Phase.TheVariants.{Riding}
use Rattle.table.specs.declared.StartTag.{StartTag}
use Rattle.table.specs.declared.StartTag.TheVariants.{None, Produced, Checked}
use Rattle.motorist.specs.Piston.{Bytes}
use Rattle.calls.specs.Outcome.{Outcome}
use Rattle.keyak.specs.Keyak.{Kind, message, wrap_of, unwrap_of, start_of}
use Rattle.keyak.specs.declared.Session.{Session}

pub record Once : Type 0 where
  pub number : ℕ
  pub lanes : List ℕ
  pub out : Bytes
  pub tag : Bytes

abbrev pub once : ℕ → List ℕ → (out tag : Bytes) → Once
once n lanes out tag = record { number = n; lanes = lanes; out = out; tag = tag }

-- the start tag's use as C numbers it
abbrev pub use_of : ℕ → StartTag
use_of zero = None
use_of (suc zero) = Produced
use_of (suc (suc n)) = Checked

-- the session under way on these lanes
abbrev pub resumed : {S : Type 0} → S → ℕ → Session S
resumed lanes at = record { lanes = lanes; phase = Riding; at = at }

-- ---- a call, as C makes it
module _ {S : Type 0} (K : Kind S) where
  abbrev pub left : Outcome (Session S) → Once
  left o = once o.answer.number (K.lanes o.session.lanes) o.out o.tag

  abbrev pub starting : (key nonce : Bytes) → Bool → ℕ → Bytes → Once
  starting key nonce forgets choice g = left (start_of K key nonce forgets (use_of choice) g)

  abbrev pub wrapping : S → (at : ℕ) (text meta : Bytes) → Bool → (out g : Bytes) → Once
  wrapping lanes at text meta forgets out g = left (wrap_of K (resumed lanes at) (message text meta forgets) out g)

  abbrev pub unwrapping : S → (at : ℕ) (text meta g : Bytes) → Bool → Bytes → Once
  unwrapping lanes at text meta g forgets out = left (unwrap_of K (resumed lanes at) (message text meta forgets) g out)
