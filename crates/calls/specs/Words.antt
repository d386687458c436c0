-- The words that the promises share: a call's ride, a chain in which none is refused or no tag differs, its accepted calls, and a chain in motorist's definition of a session.
use Rattle.std.specs.Prelude.{◌≡◌, List, [], ◌∷◌, map, ℕ, length, take}
use Rattle.table.specs.Numbers.{done, tag_differs}
use Rattle.table.specs.Refusals.{if_done}
use Rattle.table.specs.Choices.{asked}
use Rattle.table.specs.declared.Phase.TheVariants.{Riding}
use Rattle.motorist.specs.Instance.{Instance, tag_len}
use Rattle.motorist.specs.Piston.{Bytes}
use Rattle.motorist.specs.Engine.{Ride}
use Rattle.motorist.specs.Motorist.{Start, taken, start, message}
use Rattle.motorist.specs.Session.{Step, step, Steps, steps}
use Rattle.calls.specs.Session.{View, Records}
use Rattle.calls.specs.Outcome.{Outcome}
use Rattle.calls.specs.Chain.{Call, StartCall, call_of, outcomes, start_call_of, begins}

-- ---- a call
abbrev pub text_length : Call → ℕ
text_length c = length c.message.text

-- what the call c put out, its outcome being o: as many bytes as the text has
abbrev pub put_out : {R : Type 0} → Call → Outcome R → Bytes
put_out c o = take (text_length c) o.out

-- the definition's ride of the call c on a session that shows v: the one that wrap_of and unwrap_of name
abbrev pub ride_of : (i : Instance) (f : Bytes → Bytes) → View → Call → Ride
ride_of i f v c = message i f c.decrypt (v.state ∷ []) v.at c.message

-- ---- a chain
-- all are done
abbrev pub AllDone : {R : Type 0} → List (Outcome R) → Type 0
AllDone [] = Unit {0}
AllDone (o ∷ os) = (o.answer.number ≡ done) × AllDone os

-- none says that its tag differs
abbrev pub NoneDiffers : {R : Type 0} → List (Outcome R) → Type 0
NoneDiffers [] = Unit {0}
NoneDiffers (o ∷ os) = (o.answer.number ≡ tag_differs → ⊥) × NoneDiffers os

-- of these outcomes, those of the calls that are done
abbrev pub only_done : {R : Type 0} → List (Outcome R) → List (Outcome R)
only_done [] = []
only_done (o ∷ os) = if_done o.answer.number (o ∷ only_done os) (only_done os)

module _ {R : Type 0} (K : Records R) (i : Instance) (f : Bytes → Bytes) where
  -- a start and then calls, each on the session that the one before left, and none refused
  pub record Unrefused (a : StartCall) (cs : List Call) : Type 0 where
    pub start : (start_call_of K i f a).answer.number ≡ done
    pub calls : AllDone (outcomes K i f (begins K i f a) cs)

  -- the same, but calls in between may be refused, as long as no tag differs: by an output too short, a text too long, and the like
  pub record Unbroken (a : StartCall) (cs : List Call) : Type 0 where
    pub start : (start_call_of K i f a).answer.number ≡ done
    pub calls : NoneDiffers (outcomes K i f (begins K i f a) cs)

  -- of the calls cs from the session x on, those that are done, in their order: the refused ones are struck
  abbrev pub accepted : R → List Call → List Call
  accepted x [] = []
  accepted x (c ∷ cs) =
      let o : Outcome R = call_of K i f x c in
      if_done o.answer.number (c ∷ accepted o.session cs) (accepted o.session cs)

  -- the accepted calls of a chain
  abbrev pub accepted_of : StartCall → List Call → List Call
  accepted_of a cs = accepted (begins K i f a) cs

-- ---- in motorist's words
abbrev pub start_in : StartCall → Start
start_in a = record { key = a.key; nonce = a.nonce; tagged = asked a.choice; forgets = a.forgets }

abbrev pub step_of : Call → Step
step_of c = step c.decrypt c.message

-- the session of a chain, as it is defined
abbrev pub defined : (i : Instance) (f : Bytes → Bytes) → StartCall → List Call → Steps
defined i f a cs = steps i f (start i f (start_in a)).states (taken (asked a.choice)) (map step_of cs)

-- where the text after the calls starts, the first one's starting from `at` on
abbrev pub text_start : ℕ → List Call → ℕ
text_start at [] = at
text_start at (c ∷ cs) = tag_len

-- a session that shows v is under way in the one state after the steps y, the next text from n on
pub record Stands (v : View) (y : Steps) (n : ℕ) : Type 0 where
  pub phase : v.phase ≡ Riding
  pub states : v.state ∷ [] ≡ y.states
  pub at : v.at ≡ n
