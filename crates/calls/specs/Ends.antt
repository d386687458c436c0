-- How a call ends, in the words of the code: on a state s after n runs, with t bytes written, beside an output and a tag buffer that then hold out and g.
use Rattle.std.specs.Prelude.{Bool, true, false, ◌≡◌, [], ◌∷◌, ◌++◌, ℕ, length, drop, replicate}
use Rattle.table.specs.Numbers.{done, tag_differs}
use Rattle.motorist.specs.Piston.{Bytes}
use Rattle.motorist.specs.Engine.{Ride}
use Rattle.motorist.specs.Motorist.{taken}
use Rattle.calls.specs.Session.{Records}
use Rattle.calls.specs.Outcome.{Outcome, answer, refused}

-- what code shows of the ride of a start, with one Piston: the state s and the runs n
pub record Began (r : Ride) (s : Bytes) (n : ℕ) : Type 0 where
  pub states : s ∷ [] ≡ r.states
  pub runs : n ≡ length r.blocks

-- what the output holds once the tag was looked at: where it is wrong, zeros for the t bytes of text
abbrev pub withheld : Bool → ℕ → Bytes → Bytes
withheld true t out = out
withheld false t out = replicate t 0 ++ drop t out

module _ {R : Type 0} (K : Records R) where
  -- the session goes on, a tag taken or not
  abbrev pub onward : Bool → (s : Bytes) (t n : ℕ) (out g : Bytes) → Outcome R
  onward tagged s t n out g = record { answer = answer done t n; session = K.riding s (taken tagged); out = out; tag = g }

  -- the tag that came is right or not: the session goes on, or is closed
  abbrev pub judged : Bool → (s : Bytes) (t n : ℕ) (out g : Bytes) → Outcome R
  judged true s t n out g = onward true s t n out g
  judged false s t n out g = refused tag_differs K.failed out g
