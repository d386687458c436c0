-- Chains of calls: a start, and then wraps and unwraps, each made on the session that the one before left.
use Rattle.std.specs.Prelude.{Bool, true, false, List, [], ◌∷◌}
use Rattle.table.specs.declared.StartTag.{StartTag}
use Rattle.motorist.specs.Instance.{Instance}
use Rattle.motorist.specs.Piston.{Bytes}
use Rattle.motorist.specs.Motorist.{Message}
use Rattle.calls.specs.Session.{Records}
use Rattle.calls.specs.Outcome.{Outcome, wrap_of, unwrap_of, start_of}

-- a wrap of a message, or (decrypt) an unwrap of a cryptogram; the output and the tag buffer as they are lent
pub record Call : Type 0 where
  pub decrypt : Bool
  pub message : Message
  pub out : Bytes
  pub tag : Bytes

-- what starts a chain
pub record StartCall : Type 0 where
  pub key : Bytes
  pub nonce : Bytes
  pub forgets : Bool
  pub choice : StartTag
  pub tag : Bytes

module _ {R : Type 0} (K : Records R) (i : Instance) (f : Bytes → Bytes) where
  abbrev pub call_of : R → Call → Outcome R
  call_of x c =
      elim c.decrypt [
        | true ↦ unwrap_of K i f x c.message c.tag c.out
        | false ↦ wrap_of K i f x c.message c.out c.tag
      ]

  -- the outcomes of the calls cs from the session x on, and the session they leave
  abbrev pub outcomes : R → List Call → List (Outcome R)
  outcomes x [] = []
  outcomes x (c ∷ cs) = let o : Outcome R = call_of x c in o ∷ outcomes o.session cs

  abbrev pub end_of : R → List Call → R
  end_of x [] = x
  end_of x (c ∷ cs) = end_of (call_of x c).session cs

  abbrev pub start_call_of : StartCall → Outcome R
  start_call_of a = start_of K i f a.key a.nonce a.forgets a.choice a.tag

  -- the session that a start gives
  abbrev pub begins : StartCall → R
  begins a = (start_call_of a).session
