-- Demand 2, the partner: another side that starts alike, and at each step unwraps the ciphertext which the first side put out or was given, with its tag, or wraps the plaintext.
-- It answers as the first side did, gives the other text and the same tag, and the records are equal; calls that are refused in between, of either side, change nothing.
use mathlib.Core.Path.{◌≡◌, refl, sym, ap, subst, ◌∙◌}
use mathlib.Core.Bool.{Bool, true, false, not, ◌&&◌}
use mathlib.Core.Logic.{inl, inr}
use mathlib.Core.List.{List, [], ◌∷◌, ◌++◌}
use Prim.Native.Nat.{ℕ, ◌≤◌, ◌<◌}
use native.Mathlib.Omega.{arith}
use lib.ListN.{length, drop}
use lib.Seq.{length-take-le}
use Rattle.table.specs.Numbers.{done}
use Rattle.table.specs.declared.Answer.{Answer}
use Rattle.table.specs.Choices.{asked}
use Rattle.table.specs.declared.StartTag.{StartTag}
use Rattle.table.specs.declared.StartTag.TheVariants.{None, Produced, Checked}
use Rattle.slices.specs.Same.{same_bytes}
use Rattle.slices.proofs.Agree.{same_refl}
use Rattle.motorist.specs.Instance.{Instance, Sound, solo, text_rate, tag_len}
use Rattle.motorist.specs.Piston.{Bytes}
use Rattle.motorist.specs.Engine.{States, Ride}
use Rattle.motorist.specs.Motorist.{Start, Message, taken, tag, start, message}
use Rattle.motorist.specs.Session.{Step, step, plaintext_of}
use Rattle.motorist.proofs.OnePiston.{start_given, message_given}
use Rattle.motorist.proofs.Rides.{message_output}
use Rattle.motorist.proofs.RoundTrip.{mirrored, unwrap-wrap, wrap-unwrap}
use Rattle.calls.specs.Session.{View, Records}
use Rattle.calls.specs.Outcome.{end_state, wrapped, wrap_of, unwrap_of}
use Rattle.calls.specs.Chain.{Call, StartCall, call_of, outcomes, end_of, start_call_of, begins}
use Rattle.calls.specs.Words.{text_length, put_out, ride_of, AllDone, NoneDiffers, Unrefused, Unbroken, accepted, accepted_of, start_in, step_of}
use Rattle.calls.specs.Promises.{checks, cryptogram_of, joining, Joins, Beside, Joined, InVain, InStep, Agree, StartsAlike, Partnered, Talks, Heard, Partner}
use Rattle.calls.specs.Allowed.{Allowed}
use Rattle.calls.proofs.Allowed.{live_fits}
use Rattle.calls.proofs.Chains.{put_out_lem, start_next}
use Rattle.calls.proofs.OneCall.{call_done, call_allowed, wrap_does, unwrap_does, start_allowed, start_does}
use Rattle.calls.proofs.Refusals.{wrap_leaves, unwrap_leaves, start_leaves}
use Rattle.calls.proofs.Struck.{struck, accepted_unrefused, accepted_done, accepted-refused, refused_stays}

-- f gives at least as many bytes as a tag has
abbrev pub Long : (Bytes → Bytes) → Type 0
Long f = (s : Bytes) → tag_len ≤ length (f s)

-- ---- a call
-- of a step that put out the bytes o, the message as the direction d takes it: unwrapping, in ciphertext, and wrapping, in plaintext
abbrev side_of : Bool → Step → Bytes → Message
side_of true x o = cryptogram_of x o
side_of false x o = plaintext_of x o

module _ (i : Instance) (ok : Sound i) (f : Bytes → Bytes) where
  -- the ride of that message: it puts out the text of the other side, and has the same blocks and states
  side_ride : (d : Bool) (ss : States) (at : ℕ) (x : Step) → at < text_rate i
      → (let r : Ride = message i f x.decrypt ss at x.message in
      message i f d ss at (side_of d x r.output) ≡ mirrored (side_of (not d) x r.output).text r)
  side_ride d ss at x h = go d x.decrypt
    where
      go : (d e : Bool)
          → (let r : Ride = message i f e ss at x.message in
          message i f d ss at (side_of d (step e x.message) r.output)
          ≡ mirrored (side_of (not d) (step e x.message) r.output).text r)
      go true true = refl
      go true false = unwrap-wrap i ok f ss at x.message h
      go false true = wrap-unwrap i ok f ss at x.message h
      go false false = refl

-- it is as long as the text, and has the same metadata
side_length : (d : Bool) (x : Step) (o : Bytes) → length o ≡ length x.message.text
    → (length (side_of d x o).text ≡ length x.message.text) × ((side_of d x o).meta ≡ x.message.meta)
side_length d x o l = go d x.decrypt
  where
    go : (d e : Bool)
        → (length (side_of d (step e x.message) o).text ≡ length x.message.text) × ((side_of d (step e x.message) o).meta ≡ x.message.meta)
    go true true = (refl, refl)
    go true false = (l, refl)
    go false true = (l, refl)
    go false false = (refl, refl)

module _ {b w k : ℕ} (ok : Sound (solo b w k)) (f : Bytes → Bytes) (long : Long f) {R : Type 0} (K : Records R) where
  abbrev one : Instance
  one = solo b w k

  tag_long : (ss : States) → (x : Bytes) × (ss ≡ f x ∷ []) → length (tag ss) ≡ tag_len
  tag_long ss (x, e) = rw e (length-take-le tag_len (f x) (long x))

  -- the call c was done on the session x; what another call that joins it is given is allowed, and what it leaves is what the ride of c gives
  module _ (x : R) (c : Call) (e : (call_of K one f x c).answer.number ≡ done) where
    abbrev v : View
    v = K.shows x

    abbrev r : Ride
    r = ride_of one f v c

    fits : v.at < text_rate one
    fits = live_fits one ok v.phase v.at (call_allowed K one f x c e).session

    side_allowed : (d : Bool) (out g : Bytes) → text_length c ≤ length out → length g ≡ tag_len
        → (let m : Message = side_of d (step_of c) r.output in Allowed v.phase v.at (length m.text) (length m.meta) (length out) (length g))
    side_allowed d out g room l =
        let h = call_allowed K one f x c e in
        let n = side_length d (step_of c) r.output (message_output one f ok c.decrypt (v.state ∷ []) v.at fits c.message) in
        rw (n.0, n.1) (record { session = h.session; text = h.text; meta = h.meta; output = room; tag = l })

    -- the ride of the message as the direction d takes it
    side : (d : Bool) → message one f d (v.state ∷ []) v.at (side_of d (step_of c) r.output) ≡ mirrored (side_of (not d) (step_of c) r.output).text r
    side d = side_ride one ok f d (v.state ∷ []) v.at (step_of c) fits

    side_text : (d : Bool) → length (side_of d (step_of c) r.output).text ≡ text_length c
    side_text d = (side_length d (step_of c) r.output (message_output one f ok c.decrypt (v.state ∷ []) v.at fits c.message)).0

    -- what is left by a call that unwraps the ciphertext with the tag, and by one that wraps the plaintext
    unwrap_joins : (out : Bytes) → text_length c ≤ length out
        → unwrap_of K one f x (side_of true (step_of c) r.output) (tag r.states) out ≡ wrapped K (mirrored (side_of false (step_of c) r.output).text r) (text_length c) out
    unwrap_joins out room =
        let m : Message = side_of true (step_of c) r.output in
        let g : length (tag r.states) ≡ tag_len = tag_long r.states (message_given b w k f ok c.decrypt v.state v.at c.message fits) in
        let same : same_bytes (tag (message one f true (v.state ∷ []) v.at m).states) (tag r.states) ≡ true = rw (side true) (same_refl (tag r.states)) in
        let d = unwrap_does K one f x m (tag r.states) out (side_allowed true out (tag r.states) room g) same in
        (unwrap_leaves K one f x m (tag r.states) out).done d ∙ rw (side true, side_text true)

    wrap_joins : (out g : Bytes) → text_length c ≤ length out → length g ≡ tag_len
        → wrap_of K one f x (side_of false (step_of c) r.output) out g ≡ wrapped K (mirrored (side_of true (step_of c) r.output).text r) (text_length c) out
    wrap_joins out g room l =
        let m : Message = side_of false (step_of c) r.output in
        let d = wrap_does K one f x m out g (side_allowed false out g room l) in
        (wrap_leaves K one f x m out g).done d ∙ rw (side false, side_text false)

    -- the call that joins, in either direction
    joins_as : (d : Bool) (out g : Bytes) → text_length c ≤ length out → (d ≡ false → length g ≡ tag_len)
        → call_of K one f x (joining c (call_of K one f x c) d out g) ≡ wrapped K (mirrored (side_of (not d) (step_of c) r.output).text r) (text_length c) out
    joins_as true out g room l =
        let t : (call_of K one f x c).tag ≡ tag r.states = rw (call_done K one f x c e) in
        rw (put_out_lem K one f ok x c e, t) (unwrap_joins out room)
    joins_as false out g room l = rw (put_out_lem K one f ok x c e) (wrap_joins out g room (l refl))

    joins_agree : (p : Call) → Joins c (call_of K one f x c) p → Agree K one f x c x p
    joins_agree p u =
        let d : call_of K one f x c ≡ wrapped K r (text_length c) c.out = call_done K one f x c e in
        let z : call_of K one f x p ≡ wrapped K (mirrored (side_of (not p.decrypt) (step_of c) r.output).text r) (text_length c) p.out =
        ap (call_of K one f x) u.call ∙ joins_as p.decrypt p.out p.tag u.room u.lent in
        let given : Bool → Bytes = λ (b : Bool). (side_of (not b) (step_of c) (put_out c (call_of K one f x c))).text ++ drop (text_length c) p.out in
        let gives : (call_of K one f x p).out ≡ given p.decrypt = rw (z, put_out_lem K one f ok x c e) in
        record {
          answer = rw (z, d);
          plaintext = λ h. gives ∙ ap given h;
          ciphertext = λ h. gives ∙ ap given h;
          tag = rw (z, d);
          session = rw (z, d);
        }

  -- ---- a chain of which none is refused, joined call by call
  chain_joined : (x y : R) (cs ps : List Call) → y ≡ x → AllDone (outcomes K one f x cs) → Beside K one f (Joined K one f) x cs y ps
      → AllDone (outcomes K one f y ps) × Beside K one f (Agree K one f) x cs y ps
  chain_joined x y [] [] e h u = (tt, tt)
  chain_joined x y [] (p ∷ ps) e h u = elim u [ ]
  chain_joined x y (c ∷ cs) [] e h u = elim u [ ]
  chain_joined x y (c ∷ cs) (p ∷ ps) e h u =
      let a : Agree K one f x c y p = subst (λ (s : R). Agree K one f x c s p) (sym e) (joins_agree x c h.0 p u.0) in
      let ih = chain_joined (call_of K one f x c).session (call_of K one f y p).session cs ps a.session h.1 u.1 in
      ((ap (λ (n : Answer). n.number) a.answer ∙ h.0, ih.0), (a, ih.1))

  -- ---- two-way talk, step by step
  record Spoken (x : R) (c : Call) (y : R) (p : Call) : Type 0 where
    one_done : (call_of K one f x c).answer.number ≡ done
    other_done : (call_of K one f y p).answer.number ≡ done
    heard : Heard K one f x c y p
    session : (call_of K one f y p).session ≡ (call_of K one f x c).session

  spoken : (x y : R) (c p : Call) → y ≡ x → Talks K one f x c y p → Spoken x c y p
  spoken x y c p e (inl s) =
      let a : Agree K one f x c y p = subst (λ (z : R). Agree K one f x c z p) (sym e) (joins_agree x c s.done p s.joins) in
      record { one_done = s.done; other_done = ap (λ (n : Answer). n.number) a.answer ∙ s.done; heard = inl a; session = a.session }
  spoken x y c p e (inr s) =
      let a : Agree K one f y p x c = subst (λ (z : R). Agree K one f y p z c) e (joins_agree y p s.done c s.joins) in
      record { one_done = ap (λ (n : Answer). n.number) a.answer ∙ s.done; other_done = s.done; heard = inr a; session = sym a.session }

  chain_spoken : (x y : R) (cs ps : List Call) → y ≡ x → Beside K one f (Talks K one f) x cs y ps
      → AllDone (outcomes K one f x cs) × AllDone (outcomes K one f y ps) × Beside K one f (Heard K one f) x cs y ps
  chain_spoken x y [] [] e u = (tt, tt, tt)
  chain_spoken x y [] (p ∷ ps) e u = elim u [ ]
  chain_spoken x y (c ∷ cs) [] e u = elim u [ ]
  chain_spoken x y (c ∷ cs) (p ∷ ps) e u =
      let s = spoken x y c p e u.0 in
      let ih = chain_spoken (call_of K one f x c).session (call_of K one f y p).session cs ps s.session u.1 in
      ((s.one_done, ih.0), (s.other_done, ih.1), (s.heard, ih.2))

  -- ---- with calls in vain between
  record InTouch (x : R) (cs : List Call) (y : R) (ps : List Call) : Type 0 where
    calls : NoneDiffers (outcomes K one f y ps)
    steps : Beside K one f (Agree K one f) x cs y (accepted K one f y ps)
    session : end_of K one f y ps ≡ end_of K one f x cs

  in_vain : (x y : R) (cs : List Call) (p : Call) (ps : List Call) → InVain K one f y p → InTouch x cs (call_of K one f y p).session ps → InTouch x cs y (p ∷ ps)
  in_vain x y cs p ps v t =
      let s : (call_of K one f y p).session ≡ y = refused_stays K one f y p v.refused v.not_by_tag in
      record {
        calls = (v.not_by_tag, t.calls);
        steps =
            subst (Beside K one f (Agree K one f) x cs y) (sym (accepted-refused K one f y p ps v.refused))
            (subst (λ (z : R). Beside K one f (Agree K one f) x cs z (accepted K one f (call_of K one f y p).session ps)) s t.steps);
        session = t.session;
      }

  joins_next : (x y : R) (c : Call) (cs : List Call) (p : Call) (ps : List Call) → (call_of K one f x c).answer.number ≡ done → Agree K one f x c y p
      → InTouch (call_of K one f x c).session cs (call_of K one f y p).session ps → InTouch x (c ∷ cs) y (p ∷ ps)
  joins_next x y c cs p ps e a t =
      let d : (call_of K one f y p).answer.number ≡ done = ap (λ (n : Answer). n.number) a.answer ∙ e in
      record {
        calls = (λ q. omega (arith, d, q), t.calls);
        steps = subst (Beside K one f (Agree K one f) x (c ∷ cs) y) (sym (accepted_done K one f y p ps d)) (a, t.steps);
        session = t.session;
      }

  in_touch : (x y : R) (cs ps : List Call) → y ≡ x → AllDone (outcomes K one f x cs) → InStep K one f x cs y ps → InTouch x cs y ps
  in_touch x y [] [] e h u = record { calls = tt; steps = tt; session = e }
  in_touch x y (c ∷ cs) [] e h u = absurd u
  in_touch x y [] (p ∷ ps) e h u =
      in_vain x y [] p ps u.0
      (in_touch x (call_of K one f y p).session [] ps (refused_stays K one f y p u.0.refused u.0.not_by_tag ∙ e) h u.1)
  in_touch x y (c ∷ cs) (p ∷ ps) e h (inl u) =
      let a : Agree K one f x c y p = subst (λ (s : R). Agree K one f x c s p) (sym e) (joins_agree x c h.0 p u.0) in
      joins_next x y c cs p ps h.0 a (in_touch (call_of K one f x c).session (call_of K one f y p).session cs ps a.session h.1 u.1)
  in_touch x y (c ∷ cs) (p ∷ ps) e h (inr u) =
      in_vain x y (c ∷ cs) p ps u.0
      (in_touch x (call_of K one f y p).session (c ∷ cs) ps (refused_stays K one f y p u.0.refused u.0.not_by_tag ∙ e) h u.1)

  -- ---- a start
  module _ (a p : StartCall) (e : (start_call_of K one f a).answer.number ≡ done) (h : StartsAlike K one f a p) where
    alike : start_in p ≡ start_in a
    alike = rw (h.key, h.nonce, h.forgets, h.tagged)

    first_tag : p.choice ≡ Checked → p.tag ≡ tag (start one f (start_in a)).states
    first_tag c =
        let t : asked a.choice ≡ true = sym h.tagged ∙ ap asked c in
        h.given c ∙ rw ((start_leaves K one f a).done e, t)

    tag_fits_lem : (u : StartTag) → p.choice ≡ u → asked u ≡ true → length p.tag ≡ tag_len
    tag_fits_lem None c t = absurd (let z : ◌≡◌ {A = ℕ} 0 1 = cc in omega arith)
    tag_fits_lem Produced c t = h.lent c
    tag_fits_lem Checked c t = ap length (first_tag c) ∙ tag_long (start one f (start_in a)).states (start_given b w k f ok (start_in a))

    tag_agrees : (u : StartTag) → p.choice ≡ u → (checks u && not (same_bytes (tag (start one f (start_in p)).states) p.tag)) ≡ false
    tag_agrees None c = refl
    tag_agrees Produced c = refl
    tag_agrees Checked c = rw (first_tag c, alike, same_refl (tag (start one f (start_in a)).states))

    partner_starts : (start_call_of K one f p).answer.number ≡ done
    partner_starts =
        let g = start_allowed K one f a e in
        start_does K one f p
        (record { long = rw h.key g.long; short = rw h.key g.short; nonce = rw h.nonce g.nonce; tag = tag_fits_lem p.choice refl })
        (tag_agrees p.choice refl)

    start_same : begins K one f p ≡ begins K one f a
    start_same =
        start_next K one f p partner_starts
        ∙ ap (λ (s : Start). K.riding (end_state (start one f s)) (taken s.tagged)) alike
        ∙ sym (start_next K one f a e)

  -- ---- chains from a start
  partner_unrefused : (a : StartCall) (cs : List Call) (p : StartCall) (ps : List Call) → Unrefused K one f a cs → StartsAlike K one f a p
      → Beside K one f (Joined K one f) (begins K one f a) cs (begins K one f p) ps
      → Unrefused K one f p ps × (begins K one f p ≡ begins K one f a) × Beside K one f (Agree K one f) (begins K one f a) cs (begins K one f p) ps
  partner_unrefused a cs p ps h s u =
      let e = start_same a p h.start s in
      let z = chain_joined (begins K one f a) (begins K one f p) cs ps e h.calls u in
      (record { start = partner_starts a p h.start s; calls = z.0 }, e, z.1)

  partner_talk : (a : StartCall) (cs : List Call) (p : StartCall) (ps : List Call) → (start_call_of K one f a).answer.number ≡ done → StartsAlike K one f a p
      → Beside K one f (Talks K one f) (begins K one f a) cs (begins K one f p) ps
      → Unrefused K one f a cs × Unrefused K one f p ps × (begins K one f p ≡ begins K one f a) × Beside K one f (Heard K one f) (begins K one f a) cs (begins K one f p) ps
  partner_talk a cs p ps h s u =
      let e = start_same a p h s in
      let z = chain_spoken (begins K one f a) (begins K one f p) cs ps e u in
      (record { start = h; calls = z.0 }, record { start = partner_starts a p h s; calls = z.1 }, e, z.2)

  partner_in_step : (a : StartCall) (cs : List Call) (p : StartCall) (ps : List Call) → Unbroken K one f a cs → StartsAlike K one f a p
      → InStep K one f (begins K one f a) (accepted_of K one f a cs) (begins K one f p) ps → Partnered K one f a cs p ps
  partner_in_step a cs p ps h s u =
      let e = start_same a p h.start s in
      let t = in_touch (begins K one f a) (begins K one f p) (accepted_of K one f a cs) ps e (accepted_unrefused K one f a cs h).calls u in
      record {
        unbroken = record { start = partner_starts a p h.start s; calls = t.calls };
        start = e;
        steps = t.steps;
        session = t.session ∙ (struck K one f (begins K one f a) cs h.calls).session;
      }

  pub partner : Partner K one f
  partner = record { in_step = partner_in_step; unrefused = partner_unrefused; talk = partner_talk }
