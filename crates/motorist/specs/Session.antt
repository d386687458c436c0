-- A whole session: a start, and then steps, each of which wraps a message or unwraps a cryptogram.
use Rattle.std.specs.Prelude.{ℕ, Bool, true, false, not, List, [], ◌∷◌, ◌++◌, map}
use Rattle.motorist.specs.Instance.{Instance}
use Rattle.motorist.specs.Piston.{Bytes}
use Rattle.motorist.specs.Engine.{States, Blocks, Ride}
use Rattle.motorist.specs.Motorist.{Start, Message, taken, tag, start, message}

-- a step: a message that is wrapped, or a cryptogram that is (decrypt) unwrapped
pub record Step : Type 0 where
  pub decrypt : Bool
  pub message : Message

abbrev pub step : Bool → Message → Step
step decrypt g = record { decrypt = decrypt; message = g }

-- the message with another text
abbrev pub with_text : Bytes → Message → Message
with_text t g = record { text = t; meta = g.meta; forgets = g.forgets }

-- of a step that put out the bytes o: its mirror, the step that is given o and goes the other way; and the message in plaintext
abbrev pub mirror_of : Step → Bytes → Step
mirror_of x o = step (not x.decrypt) (with_text o x.message)

abbrev pub plaintext_of : Step → Bytes → Message
plaintext_of x o = elim x.decrypt [ true ↦ with_text o x.message | false ↦ x.message ]

-- what comes of steps: of each its mirror, the message in plaintext and the tag; of all, the blocks and the states after them
pub record Steps : Type 0 where
  pub mirror : List Step
  pub messages : List Message
  pub tags : List Bytes
  pub blocks : List Blocks
  pub states : States

module _ (i : Instance) (f : Bytes → Bytes) where
  -- steps from the states ss on, the first text from `at` on, each later one behind the tag before it
  abbrev pub steps : States → ℕ → List Step → Steps
  steps ss at [] = record { mirror = []; messages = []; tags = []; blocks = []; states = ss }
  steps ss at (x ∷ xs) =
      let r : Ride = message i f x.decrypt ss at x.message in
      let y : Steps = steps r.states (taken true) xs in
      record {
        mirror = mirror_of x r.output ∷ y.mirror;
        messages = plaintext_of x r.output ∷ y.messages;
        tags = tag r.states ∷ y.tags;
        blocks = r.blocks ++ y.blocks;
        states = y.states;
      }

  -- the session that starts with a and has the messages gs: all are wrapped here, and whether one was unwrapped instead is no part of it.
  -- Its blocks, from the start on, and the states it ends in
  abbrev pub wrap_all : Start → List Message → Steps
  wrap_all a gs = steps (start i f a).states (taken a.tagged) (map (step false) gs)

  unfoldable pub session_blocks : Start → List Message → List Blocks
  session_blocks a gs = (start i f a).blocks ++ (wrap_all a gs).blocks

  unfoldable pub session_states : Start → List Message → States
  session_states a gs = (wrap_all a gs).states
