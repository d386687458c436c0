-- Chains of calls in which none is refused: where they stand in motorist's definition of a session.
use mathlib.Core.Path.{◌≡◌, refl, ap, ◌∙◌}
use mathlib.Core.List.{List, [], ◌∷◌, map}
use Prim.Native.Nat.{ℕ, ◌<◌}
use lib.ListN.{drop}
use lib.Seq.{take_at}
use Rattle.table.specs.Numbers.{done}
use Rattle.table.specs.Choices.{asked}
use Rattle.table.specs.declared.Phase.TheVariants.{Riding}
use Rattle.motorist.specs.Instance.{Instance, Sound, solo, text_rate, tag_len}
use Rattle.motorist.specs.Piston.{Bytes}
use Rattle.motorist.specs.Engine.{Ride}
use Rattle.motorist.specs.Motorist.{taken, start}
use Rattle.motorist.specs.Session.{Step, Steps, steps}
use Rattle.motorist.proofs.OnePiston.{start_given, message_given}
use Rattle.motorist.proofs.Rides.{message_output}
use Rattle.calls.specs.Session.{View, Records, Serves, under_way}
use Rattle.calls.specs.Outcome.{Outcome, end_state}
use Rattle.calls.specs.Chain.{Call, StartCall, call_of, outcomes, end_of, start_call_of, begins}
use Rattle.calls.specs.Words.{text_length, put_out, ride_of, AllDone, Unrefused, start_in, step_of, defined, text_start, Stands}
use Rattle.calls.proofs.Allowed.{live_fits}
use Rattle.calls.proofs.OneCall.{call_done, call_allowed}
use Rattle.calls.proofs.Refusals.{start_leaves}

pub behind_tag : (cs : List Call) → text_start tag_len cs ≡ tag_len
behind_tag [] = refl
behind_tag (c ∷ cs) = refl

module _ {R : Type 0} (K : Records R) (i : Instance) (f : Bytes → Bytes) where
  -- ---- a call that is done has room for its text, and put out what its ride puts out
  pub call_fits : Sound i → (x : R) (c : Call) → (call_of K i f x c).answer.number ≡ done → (K.shows x).at < text_rate i
  call_fits ok x c e = live_fits i ok (K.shows x).phase (K.shows x).at (call_allowed K i f x c e).session

  pub put_out_lem : Sound i → (x : R) (c : Call) → (call_of K i f x c).answer.number ≡ done
      → put_out c (call_of K i f x c) ≡ (ride_of i f (K.shows x) c).output
  put_out_lem ok x c e =
      let v : View = K.shows x in
      rw (call_done K i f x c e)
      (take_at (ride_of i f v c).output (drop (text_length c) c.out) (text_length c)
      (message_output i f ok c.decrypt (v.state ∷ []) v.at (call_fits ok x c e) c.message))

  -- ---- a start that is done gives the record of the state after its ride
  pub start_next : (a : StartCall) → (start_call_of K i f a).answer.number ≡ done → begins K i f a ≡ K.riding (end_state (start i f (start_in a))) (taken (asked a.choice))
  start_next a e = ap (λ (o : Outcome R). o.session) ((start_leaves K i f a).done e)

-- ---- the sessions of a chain are the definition's
module _ {b w k : ℕ} (ok : Sound (solo b w k)) (f : Bytes → Bytes) {R : Type 0} (K : Records R) (serves : Serves K (solo b w k) f) where
  abbrev one : Instance
  one = solo b w k

  -- the record of the state after a ride that left one state, which f gave, shows it
  rides_on : (r : Ride) (x : Bytes) (at : ℕ) → r.states ≡ f x ∷ [] → K.shows (K.riding (end_state r) at) ≡ under_way (end_state r) at
  rides_on r x at e = rw e (serves.riding x at)

  -- so a call that is done leaves the state of its ride, and the next text behind the tag
  call_next : (x : R) (c : Call) → (call_of K one f x c).answer.number ≡ done
      → K.shows (call_of K one f x c).session ≡ under_way (end_state (ride_of one f (K.shows x) c)) tag_len
  call_next x c e =
      let v : View = K.shows x in
      let g = message_given b w k f ok c.decrypt v.state v.at c.message (call_fits K one f ok x c e) in
      rw (call_done K one f x c e) (rides_on (ride_of one f v c) g.0 tag_len g.1)

  -- and steps from there on are those that follow the ride
  pub call_steps : (x : R) (c : Call) (xs : List Step) → (call_of K one f x c).answer.number ≡ done
      → (let y : View = K.shows (call_of K one f x c).session in
      steps one f (y.state ∷ []) y.at xs ≡ steps one f (ride_of one f (K.shows x) c).states tag_len xs)
  call_steps x c xs e =
      let v : View = K.shows x in
      let g = message_given b w k f ok c.decrypt v.state v.at c.message (call_fits K one f ok x c e) in
      rw (call_next x c e, g.1)

  under_way_lem : (x : R) (cs : List Call) → (K.shows x).phase ≡ Riding → AllDone (outcomes K one f x cs)
      → Stands (K.shows (end_of K one f x cs)) (steps one f ((K.shows x).state ∷ []) (K.shows x).at (map step_of cs)) (text_start (K.shows x).at cs)
  under_way_lem x [] p h = record { phase = p; states = refl; at = refl }
  under_way_lem x (c ∷ cs) p h =
      let e = call_next x c h.0 in
      let ih = under_way_lem (call_of K one f x c).session cs (ap (λ (v : View). v.phase) e) h.1 in
      record {
        phase = ih.phase;
        states = ih.states ∙ ap (λ (y : Steps). y.states) (call_steps x c (map step_of cs) h.0);
        at = ih.at ∙ ap (λ (v : View). text_start v.at cs) e ∙ behind_tag cs;
      }

  -- ---- a start that is done
  start_view : (a : StartCall) → (start_call_of K one f a).answer.number ≡ done
      → K.shows (begins K one f a) ≡ under_way (end_state (start one f (start_in a))) (taken (asked a.choice))
  start_view a e =
      let g = start_given b w k f ok (start_in a) in
      rw (start_next K one f a e) (rides_on (start one f (start_in a)) g.0 (taken (asked a.choice)) g.1)

  pub start_steps : (a : StartCall) (cs : List Call) → (start_call_of K one f a).answer.number ≡ done
      → (let y : View = K.shows (begins K one f a) in steps one f (y.state ∷ []) y.at (map step_of cs) ≡ defined one f a cs)
  start_steps a cs e = rw (start_view a e, (start_given b w k f ok (start_in a)).1)

  -- the session that a chain leaves is the definition's
  pub stands : (a : StartCall) (cs : List Call) → Unrefused K one f a cs
      → Stands (K.shows (end_of K one f (begins K one f a) cs)) (defined one f a cs) (text_start (taken (asked a.choice)) cs)
  stands a cs h =
      let e = start_view a h.start in
      let y = under_way_lem (begins K one f a) cs (ap (λ (v : View). v.phase) e) h.calls in
      record {
        phase = y.phase;
        states = y.states ∙ ap (λ (z : Steps). z.states) (start_steps a cs h.start);
        at = y.at ∙ ap (λ (v : View). text_start v.at cs) e;
      }
