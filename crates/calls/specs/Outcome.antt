-- The whole outcome of a start, a wrap and an unwrap: the answer, what becomes of the session, and every lent byte.
-- Refusals are a list of conditions with their numbers, in the order in which they are looked at; nothing is done where one holds.
use Rattle.std.specs.Prelude.{Bool, true, false, not, ◌&&◌, List, [], ◌∷◌, ◌++◌, ℕ, ltb, leb, eqb, length, drop, replicate}
use Rattle.table.specs.Numbers.{done, not_started, key_length, nonce_length, text_too_long, metadata_too_long, output_short, tag_length, tag_differs}
use Rattle.table.specs.Refusals.{Rule, rule, first, if_done}
use Rattle.table.specs.Choices.{asked}
use Rattle.table.specs.declared.Answer.{Answer}
use Rattle.table.specs.declared.Phase.{Phase}
use Rattle.table.specs.declared.StartTag.{StartTag}
use Rattle.table.specs.declared.StartTag.TheVariants.{None, Produced, Checked}
use Rattle.slices.specs.Same.{same_bytes}
use Rattle.motorist.specs.Instance.{Instance, tag_len}
use Rattle.motorist.specs.Piston.{Bytes}
use Rattle.motorist.specs.Engine.{first_piston, Ride}
use Rattle.motorist.specs.Motorist.{Message, taken, tag, start, wrap, unwrap}
use Rattle.calls.specs.Session.{View, Records, live}

-- the number, the bytes written, the permutation runs
abbrev pub answer : ℕ → ℕ → ℕ → Answer
answer n w r = record { number = n; written = w; runs = r }

-- R is the kind of the session's record
pub record Outcome (R : Type 0) : Type 0 where
  pub answer : Answer
  pub session : R
  pub out : Bytes
  pub tag : Bytes

-- refused by n: nothing is written, nothing counted, and every buffer is as it was
abbrev pub refused : {R : Type 0} → ℕ → R → Bytes → Bytes → Outcome R
refused n x out g = record { answer = answer n 0 0; session = x; out = out; tag = g }

-- ---- the conditions
-- a message: a session of this phase and text start, t bytes of text, m of metadata, an output of d bytes, a tag of g
abbrev pub message_rules : Phase → (at t m d g : ℕ) → List Rule
message_rules phase at t m d g =
    rule (not (live phase at)) not_started
    ∷ rule (ltb 65535 t) text_too_long
    ∷ rule (ltb 65535 m) metadata_too_long
    ∷ rule (ltb d t) output_short
    ∷ rule (not (eqb g tag_len)) tag_length
    ∷ []

-- a start: a key of k bytes, a nonce of n, a tag buffer of g, at which only a start with tag looks
abbrev pub start_rules : (k n : ℕ) → StartTag → (g : ℕ) → List Rule
start_rules k n choice g =
    rule (not (leb 16 k && leb k 32)) key_length
    ∷ rule (ltb 1024 n) nonce_length
    ∷ rule (asked choice && not (eqb g tag_len)) tag_length
    ∷ []

-- the conditions of a message on a session that shows v, and of a start
abbrev pub wrap_rules : View → Message → (out g : Bytes) → List Rule
wrap_rules v m out g = message_rules v.phase v.at (length m.text) (length m.meta) (length out) (length g)

abbrev pub start_rules_of : (key nonce : Bytes) → StartTag → Bytes → List Rule
start_rules_of key nonce choice g = start_rules (length key) (length nonce) choice (length g)

-- ---- what is done, to a session whose record is of the kind K
-- the first Piston's state after a ride
abbrev pub end_state : Ride → Bytes
end_state r = first_piston r.states

module _ {R : Type 0} (K : Records R) where
  -- a message was wrapped, its text of t bytes
  abbrev pub wrapped : Ride → ℕ → Bytes → Outcome R
  wrapped r t out =
      record {
        answer = answer done t (length r.blocks);
        session = K.riding (end_state r) (taken true);
        out = r.output ++ drop t out;
        tag = tag r.states;
      }

  -- a cryptogram of t bytes was unwrapped, and its tag g is right or not
  abbrev pub unwrapped : Bool → Ride → ℕ → (out g : Bytes) → Outcome R
  unwrapped true r t out g =
      record {
        answer = answer done t (length r.blocks);
        session = K.riding (end_state r) (taken true);
        out = r.output ++ drop t out;
        tag = g;
      }
  unwrapped false r t out g =
      record { answer = answer tag_differs 0 0; session = K.failed; out = replicate t 0 ++ drop t out; tag = g }

  -- a session was started, the next text from `at` on
  abbrev pub begun : Ride → ℕ → Bytes → Outcome R
  begun r at g = record { answer = answer done 0 (length r.blocks); session = K.riding (end_state r) at; out = []; tag = g }

  abbrev pub checked : Bool → Ride → Bytes → Outcome R
  checked true r g = begun r (taken true) g
  checked false r g = refused tag_differs K.failed [] g

  abbrev pub started : StartTag → Ride → Bytes → Outcome R
  started None r g = begun r (taken false) g
  started Produced r g = begun r (taken true) (tag r.states)
  started Checked r g = checked (same_bytes (tag r.states) g) r g

  -- ---- the calls
  module _ (i : Instance) (f : Bytes → Bytes) where
    unfoldable pub wrap_of : R → Message → (out g : Bytes) → Outcome R
    wrap_of x m out g =
        let v : View = K.shows x in
        let n : ℕ = first (wrap_rules v m out g) in
        if_done n (wrapped (wrap i f (v.state ∷ []) v.at m) (length m.text) out) (refused n x out g)

    -- c is the cryptogram, g the tag that came with it
    unfoldable pub unwrap_of : R → Message → (g out : Bytes) → Outcome R
    unwrap_of x c g out =
        let v : View = K.shows x in
        let n : ℕ = first (wrap_rules v c out g) in
        let r : Ride = unwrap i f (v.state ∷ []) v.at c in
        if_done n (unwrapped (same_bytes (tag r.states) g) r (length c.text) out g) (refused n x out g)

    -- a start takes no session and gives a new one; it has no output
    unfoldable pub start_of : (key nonce : Bytes) → Bool → StartTag → Bytes → Outcome R
    start_of key nonce forgets choice g =
        let n : ℕ = first (start_rules_of key nonce choice g) in
        let r : Ride = start i f (record { key = key; nonce = nonce; tagged = asked choice; forgets = forgets }) in
        if_done n (started choice r g) (refused n K.unstarted [] g)
