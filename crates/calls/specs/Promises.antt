-- The three demands, as statements over any kind of record: what proofs/ proves of records that serve an instance, and what Lake and River promise.
use Rattle.std.specs.Prelude.{◌≡◌, Bool, true, false, not, ◌&&◌, ◌⊎◌, List, [], ◌∷◌, ◌++◌, map, ℕ, suc, ◌+◌, ◌≤◌, length, drop, replicate}
use Rattle.table.specs.Numbers.{done, not_started, tag_differs}
use Rattle.table.specs.Refusals.{Rule, rule, Exact}
use Rattle.table.specs.Choices.{asked}
use Rattle.table.specs.declared.StartTag.{StartTag}
use Rattle.table.specs.declared.StartTag.TheVariants.{None, Produced, Checked}
use Rattle.slices.specs.Same.{same_bytes}
use Rattle.motorist.specs.Instance.{Instance, tag_len}
use Rattle.motorist.specs.Piston.{Bytes}
use Rattle.motorist.specs.Engine.{Blocks, Ride, run}
use Rattle.motorist.specs.Motorist.{Message, taken, tag, fresh, start, wrap, unwrap, message}
use Rattle.motorist.specs.Session.{Step, mirror_of, plaintext_of, with_text, Steps}
use Rattle.calls.specs.Session.{View, Records}
use Rattle.calls.specs.Outcome.{Outcome, answer, refused, wrap_rules, start_rules_of, wrapped, begun, wrap_of, unwrap_of}
use Rattle.calls.specs.Chain.{Call, StartCall, call_of, outcomes, end_of, start_call_of, begins}
use Rattle.calls.specs.Words.{text_length, put_out, ride_of, NoneDiffers, only_done, Unrefused, Unbroken, accepted, accepted_of, start_in, step_of, defined, text_start, Stands}

-- ---- demand 1: the conditions of an unwrap and of a start end with this one, that the tag differs
abbrev pub tag_rule : Bool → List Rule
tag_rule differs = rule differs tag_differs ∷ []

-- a start that checks a tag
abbrev pub checks : StartTag → Bool
checks None = false
checks Produced = false
checks Checked = true

module _ (i : Instance) (f : Bytes → Bytes) where
  abbrev pub unwrap_differs : View → Message → Bytes → Bool
  unwrap_differs v c g = not (same_bytes (tag (unwrap i f (v.state ∷ []) v.at c).states) g)

  abbrev pub start_differs : StartCall → Bool
  start_differs a = checks a.choice && not (same_bytes (tag (start i f (start_in a)).states) a.tag)

  abbrev pub unwrap_rules : View → Message → (g out : Bytes) → List Rule
  unwrap_rules v c g out = wrap_rules v c out g ++ tag_rule (unwrap_differs v c g)

  abbrev pub start_call_rules : StartCall → List Rule
  start_call_rules a = start_rules_of a.key a.nonce a.choice a.tag ++ tag_rule (start_differs a)

-- the tag buffer g after a start: where a tag is asked, the tag
abbrev pub held : Bool → Ride → Bytes → Bytes
held true r g = tag r.states
held false r g = g

-- a call that is refused as on a session that was not started: 1, 0 written, 0 runs, session and buffers as they were
abbrev pub turned_away : {R : Type 0} → R → Call → Outcome R
turned_away x c = refused not_started x c.out c.tag

-- what each answer leaves of the session x and of every lent byte, where r is the definition's ride
module _ {R : Type 0} (K : Records R) where
  -- a wrap: if it is refused, the session and all buffers as they were, nothing written and no run; else what the ride gives
  pub record WrapLeaves (o : Outcome R) (x : R) (r : Ride) (t : ℕ) (out g : Bytes) : Type 0 where
    pub refusal : (n : ℕ) → o.answer.number ≡ suc n → o ≡ refused (suc n) x out g
    pub done : o.answer.number ≡ done → o ≡ wrapped K r t out

  -- an unwrap: likewise; but at refusal 8 the failed record, zeros over the text's length and the bytes beyond as they were, 0 written and 0 runs;
  -- the tag that was given stays in every case
  pub record UnwrapLeaves (o : Outcome R) (x : R) (r : Ride) (t : ℕ) (out g : Bytes) : Type 0 where
    pub refusal : (n : ℕ) → (suc n ≡ tag_differs → ⊥) → o.answer.number ≡ suc n → o ≡ refused (suc n) x out g
    pub differs : o.answer.number ≡ tag_differs → o ≡ record { answer = answer tag_differs 0 0; session = K.failed; out = replicate t 0 ++ drop t out; tag = g }
    pub done : o.answer.number ≡ done → o ≡ wrapped K r t out
    pub kept : o.tag ≡ g

  -- a start: if it is refused, the unstarted record; but if the tag differs, the failed one; else the session that the ride gives;
  -- without a tag, or checking one, it leaves the tag buffer as it was in any case
  pub record StartLeaves (o : Outcome R) (choice : StartTag) (r : Ride) (g : Bytes) : Type 0 where
    pub refusal : (n : ℕ) → (suc n ≡ tag_differs → ⊥) → o.answer.number ≡ suc n → o ≡ refused (suc n) K.unstarted [] g
    pub differs : o.answer.number ≡ tag_differs → o ≡ refused tag_differs K.failed [] g
    pub done : o.answer.number ≡ done → o ≡ begun K r (taken (asked choice)) (held (asked choice) r g)
    pub kept : (choice ≡ Produced → ⊥) → o.tag ≡ g

module _ {R : Type 0} (K : Records R) (i : Instance) (f : Bytes → Bytes) where
  -- whatever wraps and unwraps are tried on the record x, each answers 1, and leaves that very record and every buffer as it was
  pub record Closed (x : R) : Type 0 where
    pub answers : (cs : List Call) → outcomes K i f x cs ≡ map (turned_away x) cs
    pub session : (cs : List Call) → end_of K i f x cs ≡ x

  pub record Total : Type 0 where
    -- a number is answered exactly when its condition holds and none before it does, and 0 exactly when none does
    pub wrap_exactly : (x : R) (m : Message) (out g : Bytes) → Exact (wrap_of K i f x m out g).answer.number (wrap_rules (K.shows x) m out g)
    pub unwrap_exactly : (x : R) (c : Message) (g out : Bytes) → Exact (unwrap_of K i f x c g out).answer.number (unwrap_rules i f (K.shows x) c g out)
    pub start_exactly : (a : StartCall) → Exact (start_call_of K i f a).answer.number (start_call_rules i f a)
    -- what each answer leaves
    pub wrap_leaves : (x : R) (m : Message) (out g : Bytes)
        → WrapLeaves K (wrap_of K i f x m out g) x (wrap i f ((K.shows x).state ∷ []) (K.shows x).at m) (length m.text) out g
    pub unwrap_leaves : (x : R) (c : Message) (g out : Bytes)
        → UnwrapLeaves K (unwrap_of K i f x c g out) x (unwrap i f ((K.shows x).state ∷ []) (K.shows x).at c) (length c.text) out g
    pub start_leaves : (a : StartCall) → StartLeaves K (start_call_of K i f a) a.choice (start i f (start_in a)) a.tag
    -- a wrong tag closes the session for good, at an unwrap or at a start that checks it; closed too are a session never started, and one whose text start is neither 0 nor 16
    pub call_closes : (x : R) (c : Call) → (call_of K i f x c).answer.number ≡ tag_differs → Closed (call_of K i f x c).session
    pub start_closes : (a : StartCall) → (start_call_of K i f a).answer.number ≡ tag_differs → Closed (begins K i f a)
    pub unstarted_closed : Closed K.unstarted
    pub elsewhere_closed : (x : R) → ((K.shows x).at ≡ 0 → ⊥) → ((K.shows x).at ≡ tag_len → ⊥) → Closed x

-- ---- demand 2, first half: every accepted step is the definition's
-- the steps y, and after them the step x, whose ride is r
abbrev pub and_then : Steps → Step → Ride → Steps
and_then y x r =
    record {
      mirror = y.mirror ++ (mirror_of x r.output ∷ []);
      messages = y.messages ++ (plaintext_of x r.output ∷ []);
      tags = y.tags ++ (tag r.states ∷ []);
      blocks = y.blocks ++ r.blocks;
      states = r.states;
    }

module _ {R : Type 0} (K : Records R) (i : Instance) (f : Bytes → Bytes) where
  -- the calls cs from the session x on, and the same without the refused ones
  pub record Struck (x : R) (cs : List Call) : Type 0 where
    -- those that are left give the very outcomes that they gave: answers, records, every lent byte
    pub outcomes : outcomes K i f x (accepted K i f x cs) ≡ only_done (outcomes K i f x cs)
    -- and they leave the same record
    pub session : end_of K i f x (accepted K i f x cs) ≡ end_of K i f x cs

  -- the definition's ride of the call c, after the calls of front
  abbrev pub ride_at : StartCall → List Call → Call → Ride
  ride_at a front c = message i f c.decrypt (defined i f a front).states (text_start (taken (asked a.choice)) front) c.message

  -- the call c after the calls of front, of which those that were accepted count
  pub record RightAt (a : StartCall) (front : List Call) (c : Call) : Type 0 where
    -- with that ride as its last step, the definition goes from what was accepted to that and c
    pub definition : defined i f a (accepted_of K i f a front ++ (c ∷ [])) ≡ and_then (defined i f a (accepted_of K i f a front)) (step_of c) (ride_at a (accepted_of K i f a front) c)
    -- the call is made on the definition's session, and gives what the ride gives; of its output, the bytes beyond the text stay
    pub session : Stands (K.shows (end_of K i f (begins K i f a) front)) (defined i f a (accepted_of K i f a front)) (text_start (taken (asked a.choice)) (accepted_of K i f a front))
    pub outcome : call_of K i f (end_of K i f (begins K i f a) front) c ≡ wrapped K (ride_at a (accepted_of K i f a front) c) (text_length c) c.out

  pub record Right : Type 0 where
    -- the start, where it is not refused
    pub start : (a : StartCall) → (start_call_of K i f a).answer.number ≡ done
        → start_call_of K i f a ≡ begun K (start i f (start_in a)) (taken (asked a.choice)) (held (asked a.choice) (start i f (start_in a)) a.tag)
    -- where no tag differs, refused calls can be struck
    pub struck : (x : R) (cs : List Call) → NoneDiffers (outcomes K i f x cs) → Struck x cs
    -- and in such a chain the call c after any front of it, if it is done, is right
    pub steps : (a : StartCall) (front : List Call) (c : Call) (back : List Call) → Unbroken K i f a (front ++ (c ∷ back))
        → (call_of K i f (end_of K i f (begins K i f a) front) c).answer.number ≡ done → RightAt a front c
    -- a chain of which none is refused is one, and all its calls are accepted
    pub unrefused : (a : StartCall) (cs : List Call) → Unrefused K i f a cs → Unbroken K i f a cs × (accepted_of K i f a cs ≡ cs)

-- ---- demand 2, the partner: another side that starts alike, and unwraps what the first side wrapped, or wraps what that unwraps
-- of a step that put out the bytes o, the message in ciphertext
abbrev pub cryptogram_of : Step → Bytes → Message
cryptogram_of x o = elim x.decrypt [ true ↦ x.message | false ↦ with_text o x.message ]

-- the partner's call beside the call c, whose outcome is o. It unwraps the ciphertext of c with the tag that c produced or was given; or it wraps the plaintext
-- of c, with a tag buffer g: where c unwrapped, that is two-way talk
abbrev pub joining : {R : Type 0} → Call → Outcome R → Bool → (out g : Bytes) → Call
joining c o true out g = record { decrypt = true; message = cryptogram_of (step_of c) (put_out c o); out = out; tag = o.tag }
joining c o false out g = record { decrypt = false; message = plaintext_of (step_of c) (put_out c o); out = out; tag = g }

-- the call p is such a call, its output no shorter than the text, and a tag buffer that it is to fill has 16 bytes
pub record Joins {R : Type 0} (c : Call) (o : Outcome R) (p : Call) : Type 0 where
  pub call : p ≡ joining c o p.decrypt p.out p.tag
  pub room : text_length c ≤ length p.out
  pub lent : p.decrypt ≡ false → length p.tag ≡ tag_len

module _ {R : Type 0} (K : Records R) (i : Instance) (f : Bytes → Bytes) where
  -- what holds of two chains at every step, one beside the other: P of the sessions and the calls there
  abbrev pub Beside : (R → Call → R → Call → Type 0) → R → List Call → R → List Call → Type 0
  Beside P x [] y [] = Unit {0}
  Beside P x [] y (p ∷ ps) = ⊥
  Beside P x (c ∷ cs) y [] = ⊥
  Beside P x (c ∷ cs) y (p ∷ ps) = P x c y p × Beside P (call_of K i f x c).session cs (call_of K i f y p).session ps

  -- the partner's call joins the first side's
  abbrev pub Joined : R → Call → R → Call → Type 0
  Joined x c y p = Joins c (call_of K i f x c) p

  -- the call p on the session y is made in vain: it is refused, and not because its tag differs
  pub record InVain (y : R) (p : Call) : Type 0 where
    pub refused : (call_of K i f y p).answer.number ≡ done → ⊥
    pub not_by_tag : (call_of K i f y p).answer.number ≡ tag_differs → ⊥

  -- the partner keeps step with the calls cs: each of its own joins the next of them, or is made in vain
  abbrev pub InStep : R → List Call → R → List Call → Type 0
  InStep x [] y [] = Unit {0}
  InStep x (c ∷ cs) y [] = ⊥
  InStep x [] y (p ∷ ps) = InVain y p × InStep x [] (call_of K i f y p).session ps
  InStep x (c ∷ cs) y (p ∷ ps) =
      (Joined x c y p × InStep (call_of K i f x c).session cs (call_of K i f y p).session ps)
      ⊎ (InVain y p × InStep x (c ∷ cs) (call_of K i f y p).session ps)

  -- the partner's call answers as the first side's did: the number, the bytes written and the runs. Where it unwraps it gives the plaintext, and where it wraps
  -- the very ciphertext that the first side put out or was given; the tag is the one that the first side produced or was given; the records after are equal
  pub record Agree (x : R) (c : Call) (y : R) (p : Call) : Type 0 where
    pub answer : (call_of K i f y p).answer ≡ (call_of K i f x c).answer
    pub plaintext : p.decrypt ≡ true → (call_of K i f y p).out ≡ (plaintext_of (step_of c) (put_out c (call_of K i f x c))).text ++ drop (text_length c) p.out
    pub ciphertext : p.decrypt ≡ false → (call_of K i f y p).out ≡ (cryptogram_of (step_of c) (put_out c (call_of K i f x c))).text ++ drop (text_length c) p.out
    pub tag : (call_of K i f y p).tag ≡ (call_of K i f x c).tag
    pub session : (call_of K i f y p).session ≡ (call_of K i f x c).session

  -- the partner's start: key, nonce and choices alike; a tag buffer that it is to fill has 16 bytes, and a tag that it is to check is the first side's
  pub record StartsAlike (a p : StartCall) : Type 0 where
    pub key : p.key ≡ a.key
    pub nonce : p.nonce ≡ a.nonce
    pub forgets : p.forgets ≡ a.forgets
    pub tagged : asked p.choice ≡ asked a.choice
    pub lent : p.choice ≡ Produced → length p.tag ≡ tag_len
    pub given : p.choice ≡ Checked → p.tag ≡ (start_call_of K i f a).tag

  pub record Partnered (a : StartCall) (cs : List Call) (p : StartCall) (ps : List Call) : Type 0 where
    -- no tag differs at the partner's
    pub unbroken : Unbroken K i f p ps
    -- the records are equal from the start on; at every accepted call the two agree; and the records are equal at the end
    pub start : begins K i f p ≡ begins K i f a
    pub steps : Beside Agree (begins K i f a) (accepted_of K i f a cs) (begins K i f p) (accepted_of K i f p ps)
    pub session : end_of K i f (begins K i f p) ps ≡ end_of K i f (begins K i f a) cs

  -- in two-way talk one side wraps, and the other unwraps what it put out: c wraps on x, and is done, and p on the other side is handed that
  pub record Says (x : R) (c : Call) (p : Call) : Type 0 where
    pub wraps : c.decrypt ≡ false
    pub done : (call_of K i f x c).answer.number ≡ done
    pub joins : Joins c (call_of K i f x c) p
    pub unwraps : p.decrypt ≡ true

  -- whichever side it is
  abbrev pub Talks : R → Call → R → Call → Type 0
  Talks x c y p = Says x c p ⊎ Says y p c

  abbrev pub Heard : R → Call → R → Call → Type 0
  Heard x c y p = Agree x c y p ⊎ Agree y p x c

  pub record Partner : Type 0 where
    -- with refusals in between, of either side, but no tag that differs at the first side's
    pub in_step : (a : StartCall) (cs : List Call) (p : StartCall) (ps : List Call) → Unbroken K i f a cs → StartsAlike a p
        → InStep (begins K i f a) (accepted_of K i f a cs) (begins K i f p) ps → Partnered a cs p ps
    -- without: where none of the first side's is refused and every call of the partner joins, none of the partner's is refused
    pub unrefused : (a : StartCall) (cs : List Call) (p : StartCall) (ps : List Call) → Unrefused K i f a cs → StartsAlike a p
        → Beside Joined (begins K i f a) cs (begins K i f p) ps
        → Unrefused K i f p ps × (begins K i f p ≡ begins K i f a) × Beside Agree (begins K i f a) cs (begins K i f p) ps
    -- two-way talk: where at each step one side's wrap is done and the other is handed it, every call of both sides is done, and the records stay equal
    pub talk : (a : StartCall) (cs : List Call) (p : StartCall) (ps : List Call) → (start_call_of K i f a).answer.number ≡ done → StartsAlike a p
        → Beside Talks (begins K i f a) cs (begins K i f p) ps
        → Unrefused K i f a cs × Unrefused K i f p ps × (begins K i f p ≡ begins K i f a) × Beside Heard (begins K i f a) cs (begins K i f p) ps

-- ---- demand 3: the blocks tell the whole story
-- the runs that calls answer, all together
abbrev pub all_runs : {R : Type 0} → List (Outcome R) → ℕ
all_runs [] = 0
all_runs (o ∷ os) = o.answer.runs + all_runs os

module _ {R : Type 0} (K : Records R) (i : Instance) (f : Bytes → Bytes) where
  -- the blocks of calls: those of each one's ride, whose number the call answers as its runs
  abbrev pub ridden : R → List Call → List Blocks
  ridden x [] = []
  ridden x (c ∷ cs) = (ride_of i f (K.shows x) c).blocks ++ ridden (call_of K i f x c).session cs

  -- the blocks of a chain: those of its start, and of the calls that were accepted
  abbrev pub fed : StartCall → List Call → List Blocks
  fed a cs = (start i f (start_in a)).blocks ++ ridden (begins K i f a) (accepted_of K i f a cs)

  -- the messages of calls in plaintext, as it was given or put out
  abbrev pub said : R → List Call → List Message
  said x [] = []
  said x (c ∷ cs) = plaintext_of (step_of c) (put_out c (call_of K i f x c)) ∷ said (call_of K i f x c).session cs

  -- those of a chain: of the calls that were accepted
  abbrev pub story_of : StartCall → List Call → List Message
  story_of a cs = said (begins K i f a) (accepted_of K i f a cs)

  -- two chains that start alike and say the same; a message is its plaintext, its metadata and whether it is to be forgotten
  pub record SameStory (a : StartCall) (cs : List Call) (d : StartCall) (ds : List Call) : Type 0 where
    pub key : a.key ≡ d.key
    pub nonce : a.nonce ≡ d.nonce
    pub tagged : asked a.choice ≡ asked d.choice
    pub forgets : a.forgets ≡ d.forgets
    pub messages : story_of a cs ≡ story_of d ds

  -- of chains in which no tag differs, refusals in between or not
  pub record Story : Type 0 where
    -- equal lists, equal stories
    pub told : (a : StartCall) (cs : List Call) (d : StartCall) (ds : List Call) → Unbroken K i f a cs → Unbroken K i f d ds → fed a cs ≡ fed d ds → SameStory a cs d ds
    -- the list is that of the definition's rides, the very ones that demand 2 names
    pub blocks : (a : StartCall) (cs : List Call) → Unbroken K i f a cs → fed a cs ≡ (start i f (start_in a)).blocks ++ (defined i f a (accepted_of K i f a cs)).blocks
    -- the record's bytes are the permutation run over that very list, from all zeros
    pub state : (a : StartCall) (cs : List Call) → Unbroken K i f a cs → (K.shows (end_of K i f (begins K i f a) cs)).state ∷ [] ≡ run i f (fresh i) (fed a cs)
    -- and the list has as many blocks as the calls, the refused ones too, answered runs
    pub runs : (a : StartCall) (cs : List Call) → Unbroken K i f a cs → (start_call_of K i f a).answer.runs + all_runs (outcomes K i f (begins K i f a) cs) ≡ length (fed a cs)
    -- a list that is the front of another: the same start, and the messages are the front of the other's
    pub front : (a : StartCall) (cs : List Call) (d : StartCall) (ds : List Call) (rest : List Blocks) → Unbroken K i f a cs → Unbroken K i f d ds
        → fed a cs ++ rest ≡ fed d ds
        → (start_in a ≡ start_in d) × ((others : List Message) × (story_of a cs ++ others ≡ story_of d ds))
