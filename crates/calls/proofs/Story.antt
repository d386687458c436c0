-- Demand 3. Two chains of calls of one instance, in which no tag differs, that feed equal lists of blocks have the same key, nonce and start choices, and the same
-- messages in the same order, with the same choice at each; and the state of a session is what the permutation makes of that very list, from all zeros.
-- First of chains of which none is refused; the accepted calls of any other are such a chain.
use mathlib.Core.Path.{◌≡◌, refl, sym, ap, ap₂, ◌∙◌}
use mathlib.Core.List.{List, [], ◌∷◌, ◌++◌, map}
use Prim.Native.Nat.{ℕ, zero, suc, ◌+◌}
use native.Mathlib.Omega.{arith}
use lib.ListN.{length, length-append}
use Rattle.table.specs.Numbers.{done}
use Rattle.table.specs.Refusals.{if_done}
use Rattle.motorist.specs.Instance.{Instance, Sound, solo}
use Rattle.motorist.specs.Piston.{Bytes}
use Rattle.motorist.specs.Engine.{Blocks, run}
use Rattle.motorist.specs.Motorist.{Start, Message, Keyed, fresh, start}
use Rattle.motorist.specs.Session.{plaintext_of, Steps, steps, session_blocks}
use Rattle.motorist.proofs.Story.{session_steps, same_messages}
use Rattle.motorist.proofs.Prefix.{front_messages}
use Rattle.calls.specs.Session.{Records, Serves}
use Rattle.calls.specs.Outcome.{Outcome}
use Rattle.calls.specs.Chain.{Call, StartCall, call_of, outcomes, end_of, start_call_of, begins}
use Rattle.calls.specs.Words.{ride_of, AllDone, NoneDiffers, only_done, Unrefused, Unbroken, accepted, accepted_of, start_in, step_of, defined}
use Rattle.calls.specs.Promises.{all_runs, ridden, fed, said, SameStory, Story}
use Rattle.calls.proofs.Chains.{put_out_lem, call_steps, start_steps, stands}
use Rattle.calls.proofs.OneCall.{call_done, call_refused, start_allowed}
use Rattle.calls.proofs.Refusals.{start_leaves}
use Rattle.calls.proofs.Struck.{struck, accepted_unrefused}

module _ {R : Type 0} (K : Records R) (i : Instance) (f : Bytes → Bytes) where
  -- the blocks of a start and of all these calls
  abbrev fed_by : StartCall → List Call → List Blocks
  fed_by a cs = (start i f (start_in a)).blocks ++ ridden K i f (begins K i f a) cs

  -- ---- the runs are counted by the list
  calls_runs : (x : R) (cs : List Call) → AllDone (outcomes K i f x cs) → all_runs (outcomes K i f x cs) ≡ length (ridden K i f x cs)
  calls_runs x [] h = refl
  calls_runs x (c ∷ cs) h =
      ap₂ (λ (m n : ℕ). m + n) (ap (λ (o : Outcome R). o.answer.runs) (call_done K i f x c h.0)) (calls_runs (call_of K i f x c).session cs h.1)
      ∙ sym (length-append (ride_of i f (K.shows x) c).blocks (ridden K i f (call_of K i f x c).session cs))

  -- refused calls answer none
  done_runs : (x : R) (cs : List Call) → NoneDiffers (outcomes K i f x cs) → all_runs (outcomes K i f x cs) ≡ all_runs (only_done (outcomes K i f x cs))
  done_runs x [] h = refl
  done_runs x (c ∷ cs) h = go (call_of K i f x c).answer.number refl (done_runs (call_of K i f x c).session cs h.1)
    where
      go : (n : ℕ) → (call_of K i f x c).answer.number ≡ n
          → (let os : List (Outcome R) = outcomes K i f (call_of K i f x c).session cs in
          all_runs os ≡ all_runs (only_done os)
          → (call_of K i f x c).answer.runs + all_runs os ≡ all_runs (if_done n (call_of K i f x c ∷ only_done os) (only_done os)))
      go zero e ih = ap (λ (n : ℕ). (call_of K i f x c).answer.runs + n) ih
      go (suc n) e ih =
          let z : (call_of K i f x c).answer.runs ≡ 0 = ap (λ (o : Outcome R). o.answer.runs) (call_refused K i f x c (λ k. omega (arith, k, e)) h.0) in
          omega (arith, z, ih)

  struck_runs : (x : R) (cs : List Call) → NoneDiffers (outcomes K i f x cs)
      → all_runs (outcomes K i f x cs) ≡ all_runs (outcomes K i f x (accepted K i f x cs))
  struck_runs x cs h = done_runs x cs h ∙ ap all_runs (sym (struck K i f x cs h).outcomes)

  fed_runs : (a : StartCall) (cs : List Call) → Unrefused K i f a cs → (start_call_of K i f a).answer.runs + all_runs (outcomes K i f (begins K i f a) cs) ≡ length (fed_by a cs)
  fed_runs a cs h =
      ap₂ (λ (m n : ℕ). m + n) (ap (λ (o : Outcome R). o.answer.runs) ((start_leaves K i f a).done h.start)) (calls_runs (begins K i f a) cs h.calls)
      ∙ sym (length-append (start i f (start_in a)).blocks (ridden K i f (begins K i f a) cs))

module _ {b w k : ℕ} (ok : Sound (solo b w k)) (f : Bytes → Bytes) {R : Type 0} (K : Records R) (serves : Serves K (solo b w k) f) where
  abbrev one : Instance
  one = solo b w k

  -- ---- blocks and messages are the definition's
  calls_told : (x : R) (cs : List Call) → AllDone (outcomes K one f x cs)
      → (let y : Steps = steps one f ((K.shows x).state ∷ []) (K.shows x).at (map step_of cs) in (ridden K one f x cs ≡ y.blocks) × (said K one f x cs ≡ y.messages))
  calls_told x [] h = (refl, refl)
  calls_told x (c ∷ cs) h =
      let ih = calls_told (call_of K one f x c).session cs h.1 in
      let z = call_steps ok f K serves x c (map step_of cs) h.0 in (
        ap (λ (l : List Blocks). (ride_of one f (K.shows x) c).blocks ++ l) (ih.0 ∙ ap (λ (s : Steps). s.blocks) z),
        ap₂ (λ (o : Bytes) (l : List Message). plaintext_of (step_of c) o ∷ l) (put_out_lem K one f ok x c h.0) (ih.1 ∙ ap (λ (s : Steps). s.messages) z),
      )

  chain_told : (a : StartCall) (cs : List Call) → Unrefused K one f a cs
      → (ridden K one f (begins K one f a) cs ≡ (defined one f a cs).blocks) × (said K one f (begins K one f a) cs ≡ (defined one f a cs).messages)
  chain_told a cs h =
      let y = calls_told (begins K one f a) cs h.calls in
      let z = start_steps ok f K serves a cs h.start in
      (y.0 ∙ ap (λ (s : Steps). s.blocks) z, y.1 ∙ ap (λ (s : Steps). s.messages) z)

  -- the blocks of a chain are those of the session of its messages
  fed_session : (a : StartCall) (cs : List Call) → Unrefused K one f a cs → fed_by K one f a cs ≡ session_blocks one f (start_in a) (said K one f (begins K one f a) cs)
  fed_session a cs h =
      let t = chain_told a cs h in
      ap (λ (l : List Blocks). (start one f (start_in a)).blocks ++ l) t.0
      ∙ (session_steps one ok f (start_in a) (map step_of cs)).0
      ∙ ap (session_blocks one f (start_in a)) (sym t.1)

  -- ---- the state is what the permutation makes of the list
  fed_state : (a : StartCall) (cs : List Call) → Unrefused K one f a cs → (K.shows (end_of K one f (begins K one f a) cs)).state ∷ [] ≡ run one f (fresh one) (fed_by K one f a cs)
  fed_state a cs h =
      (stands ok f K serves a cs h).states
      ∙ (session_steps one ok f (start_in a) (map step_of cs)).1
      ∙ ap (λ (l : List Blocks). run one f (fresh one) l) (ap (session_blocks one f (start_in a)) (sym (chain_told a cs h).1) ∙ sym (fed_session a cs h))

  -- ---- equal lists, equal stories
  keyed : (a : StartCall) → (start_call_of K one f a).answer.number ≡ done → Keyed (start_in a)
  keyed a e = let h = start_allowed K one f a e in record { long = h.long; short = h.short }

  same_said : (a : StartCall) (cs : List Call) (d : StartCall) (ds : List Call) → Unrefused K one f a cs → Unrefused K one f d ds → fed_by K one f a cs ≡ fed_by K one f d ds
      → (start_in a ≡ start_in d) × (said K one f (begins K one f a) cs ≡ said K one f (begins K one f d) ds)
  same_said a cs d ds h l e =
      same_messages b w k f ok (start_in a) (start_in d) (said K one f (begins K one f a) cs) (said K one f (begins K one f d) ds) (keyed a h.start) (keyed d l.start)
      (sym (fed_session a cs h) ∙ e ∙ fed_session d ds l)

  -- a list that is the front of another: the same start, and the messages are the front of the other's
  story_front : (a : StartCall) (cs : List Call) (d : StartCall) (ds : List Call) (rest : List Blocks) → Unrefused K one f a cs → Unrefused K one f d ds
      → fed_by K one f a cs ++ rest ≡ fed_by K one f d ds
      → (start_in a ≡ start_in d) × ((others : List Message) × (said K one f (begins K one f a) cs ++ others ≡ said K one f (begins K one f d) ds))
  story_front a cs d ds rest h l e =
      front_messages b w k f ok (start_in a) (start_in d) (said K one f (begins K one f a) cs) (said K one f (begins K one f d) ds) rest (keyed a h.start) (keyed d l.start)
      (ap (λ (x : List Blocks). x ++ rest) (sym (fed_session a cs h)) ∙ e ∙ fed_session d ds l)

  -- ---- of any chain in which no tag differs: what holds of its accepted calls
  abbrev keep : StartCall → List Call → List Call
  keep = accepted_of K one f

  same_story : (a : StartCall) (cs : List Call) (d : StartCall) (ds : List Call) → Unbroken K one f a cs → Unbroken K one f d ds → fed K one f a cs ≡ fed K one f d ds
      → SameStory K one f a cs d ds
  same_story a cs d ds h l e =
      let p = same_said a (keep a cs) d (keep d ds) (accepted_unrefused K one f a cs h) (accepted_unrefused K one f d ds l) e in
      record {
        key = ap (λ (s : Start). s.key) p.0;
        nonce = ap (λ (s : Start). s.nonce) p.0;
        tagged = ap (λ (s : Start). s.tagged) p.0;
        forgets = ap (λ (s : Start). s.forgets) p.0;
        messages = p.1;
      }

  pub story : Story K one f
  story =
      record {
        told = same_story;
        blocks = λ a cs h. ap (λ (l : List Blocks). (start one f (start_in a)).blocks ++ l) (chain_told a (keep a cs) (accepted_unrefused K one f a cs h)).0;
        state = λ a cs h.
            ap (λ (x : R). (K.shows x).state ∷ []) (sym (struck K one f (begins K one f a) cs h.calls).session)
            ∙ fed_state a (keep a cs) (accepted_unrefused K one f a cs h);
        runs = λ a cs h.
            ap (λ (n : ℕ). (start_call_of K one f a).answer.runs + n) (struck_runs K one f (begins K one f a) cs h.calls)
            ∙ fed_runs K one f a (keep a cs) (accepted_unrefused K one f a cs h);
        front = λ a cs d ds rest h l. story_front a (keep a cs) d (keep d ds) rest (accepted_unrefused K one f a cs h) (accepted_unrefused K one f d ds l);
      }
