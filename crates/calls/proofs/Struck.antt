-- Refusals in between. Where no tag differs a refused call leaves the record as it was, so it can be struck: the calls that are left give the outcomes that they
-- gave and leave the same record, and they are a chain of which none is refused.
use mathlib.Core.Path.{◌≡◌, refl, sym, ap, subst, ◌∙◌}
use mathlib.Core.List.{List, [], ◌∷◌, ◌++◌}
use Prim.Native.Nat.{ℕ, zero, suc}
use native.Mathlib.Omega.{arith}
use Rattle.table.specs.Numbers.{done, tag_differs}
use Rattle.table.specs.Refusals.{if_done}
use Rattle.table.proofs.Exact.{is_done, not_done}
use Rattle.motorist.specs.Instance.{Instance}
use Rattle.motorist.specs.Piston.{Bytes}
use Rattle.calls.specs.Session.{Records}
use Rattle.calls.specs.Outcome.{Outcome}
use Rattle.calls.specs.Chain.{Call, StartCall, call_of, outcomes, end_of, begins}
use Rattle.calls.specs.Words.{AllDone, NoneDiffers, only_done, Unrefused, Unbroken, accepted, accepted_of}
use Rattle.calls.specs.Promises.{Struck}
use Rattle.calls.proofs.OneCall.{call_refused}

-- ---- outcomes
only_done_lem : {R : Type 0} (os : List (Outcome R)) → AllDone (only_done os)
only_done_lem [] = tt
only_done_lem (o ∷ os) = go o.answer.number refl (only_done_lem os)
  where
    go : (n : ℕ) → o.answer.number ≡ n → AllDone (only_done os) → AllDone (if_done n (o ∷ only_done os) (only_done os))
    go zero e h = (e, h)
    go (suc n) e h = h

-- all done, so no tag differs
none_differs : {R : Type 0} (os : List (Outcome R)) → AllDone os → NoneDiffers os
none_differs [] h = tt
none_differs (o ∷ os) h = (λ e. omega (arith, h.0, e), none_differs os h.1)

module _ {R : Type 0} (K : Records R) (i : Instance) (f : Bytes → Bytes) where
  differs_front : (x : R) (front back : List Call) → NoneDiffers (outcomes K i f x (front ++ back)) → NoneDiffers (outcomes K i f x front)
  differs_front x [] back h = tt
  differs_front x (c ∷ front) back h = (h.0, differs_front (call_of K i f x c).session front back h.1)

  pub unbroken_front : (a : StartCall) (front back : List Call) → Unbroken K i f a (front ++ back) → Unbroken K i f a front
  unbroken_front a front back h = record { start = h.start; calls = differs_front (begins K i f a) front back h.calls }

  -- ---- the first call is accepted, or struck
  pub accepted_done : (x : R) (c : Call) (cs : List Call) → (call_of K i f x c).answer.number ≡ done
      → accepted K i f x (c ∷ cs) ≡ c ∷ accepted K i f (call_of K i f x c).session cs
  accepted_done x c cs e = is_done (call_of K i f x c).answer.number _ _ e

  pub accepted-refused : (x : R) (c : Call) (cs : List Call) → ((call_of K i f x c).answer.number ≡ done → ⊥)
      → accepted K i f x (c ∷ cs) ≡ accepted K i f (call_of K i f x c).session cs
  accepted-refused x c cs n = not_done (call_of K i f x c).answer.number _ _ n

  -- then the session is as it was
  pub refused_stays : (x : R) (c : Call) → ((call_of K i f x c).answer.number ≡ done → ⊥) → ((call_of K i f x c).answer.number ≡ tag_differs → ⊥)
      → (call_of K i f x c).session ≡ x
  refused_stays x c p q = ap (λ (o : Outcome R). o.session) (call_refused K i f x c p q)

  struck_done : (x : R) (c : Call) (cs : List Call) → (call_of K i f x c).answer.number ≡ done → Struck K i f (call_of K i f x c).session cs → Struck K i f x (c ∷ cs)
  struck_done x c cs e ih =
      let o : Outcome R = call_of K i f x c in
      let os : List (Outcome R) = outcomes K i f o.session cs in
      record {
        outcomes =
            ap (outcomes K i f x) (accepted_done x c cs e)
            ∙ ap (λ (l : List (Outcome R)). o ∷ l) ih.outcomes
            ∙ sym (is_done o.answer.number (o ∷ only_done os) (only_done os) e);
        session = ap (end_of K i f x) (accepted_done x c cs e) ∙ ih.session;
      }

  struck_refused : (x : R) (c : Call) (cs : List Call) → ((call_of K i f x c).answer.number ≡ done → ⊥) → ((call_of K i f x c).answer.number ≡ tag_differs → ⊥)
      → Struck K i f (call_of K i f x c).session cs → Struck K i f x (c ∷ cs)
  struck_refused x c cs p q ih =
      let o : Outcome R = call_of K i f x c in
      let os : List (Outcome R) = outcomes K i f o.session cs in
      let s : x ≡ o.session = sym (refused_stays x c p q) in
      record {
        outcomes =
            ap (outcomes K i f x) (accepted-refused x c cs p)
            ∙ ap (λ (y : R). outcomes K i f y (accepted K i f o.session cs)) s
            ∙ ih.outcomes
            ∙ sym (not_done o.answer.number (o ∷ only_done os) (only_done os) p);
        session =
            ap (end_of K i f x) (accepted-refused x c cs p)
            ∙ ap (λ (y : R). end_of K i f y (accepted K i f o.session cs)) s
            ∙ ih.session;
      }

  -- ---- all of them
  pub struck : (x : R) (cs : List Call) → NoneDiffers (outcomes K i f x cs) → Struck K i f x cs
  struck x [] h = record { outcomes = refl; session = refl }
  struck x (c ∷ cs) h = go (call_of K i f x c).answer.number refl (struck (call_of K i f x c).session cs h.1)
    where
      go : (n : ℕ) → (call_of K i f x c).answer.number ≡ n → Struck K i f (call_of K i f x c).session cs → Struck K i f x (c ∷ cs)
      go zero e ih = struck_done x c cs e ih
      go (suc n) e ih = struck_refused x c cs (λ d. omega (arith, d, e)) h.0 ih

  -- the accepted calls of a chain are one of which none is refused
  pub accepted_unrefused : (a : StartCall) (cs : List Call) → Unbroken K i f a cs → Unrefused K i f a (accepted_of K i f a cs)
  accepted_unrefused a cs h =
      record {
        start = h.start;
        calls = subst AllDone (sym (struck (begins K i f a) cs h.calls).outcomes) (only_done_lem (outcomes K i f (begins K i f a) cs));
      }

  -- ---- where none is refused, nothing is struck
  pub all_accepted : (x : R) (cs : List Call) → AllDone (outcomes K i f x cs) → accepted K i f x cs ≡ cs
  all_accepted x [] h = refl
  all_accepted x (c ∷ cs) h = accepted_done x c cs h.0 ∙ ap (λ (l : List Call). c ∷ l) (all_accepted (call_of K i f x c).session cs h.1)

  pub unrefused_unbroken : (a : StartCall) (cs : List Call) → Unrefused K i f a cs → Unbroken K i f a cs × (accepted_of K i f a cs ≡ cs)
  unrefused_unbroken a cs h = (
    record { start = h.start; calls = none_differs (outcomes K i f (begins K i f a) cs) h.calls },
    all_accepted (begins K i f a) cs h.calls,
  )
