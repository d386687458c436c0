-- Demand 1, to its end: a session that was never started, or whose tag differed, is closed. Whatever wraps and unwraps are tried on it,
-- each answers 1, leaves that very record, and leaves every buffer as it was. And the demand as a whole.
use mathlib.Core.Path.{◌≡◌, refl, sym, ap, subst, ◌∙◌}
use mathlib.Core.Bool.{Bool, true, false}
use mathlib.Core.List.{List, [], ◌∷◌, map}
use native.Mathlib.Omega.{arith}
use Rattle.table.specs.Numbers.{tag_differs}
use Rattle.table.proofs.Exact.{first_apart}
use Rattle.motorist.specs.Instance.{Instance, tag_len}
use Rattle.motorist.specs.Piston.{Bytes}
use Rattle.calls.specs.Session.{Records, Serves, live}
use Rattle.calls.specs.Outcome.{Outcome, wrap_rules}
use Rattle.calls.specs.Chain.{Call, call_of, outcomes, end_of}
use Rattle.calls.specs.Promises.{turned_away, Closed, Total}
use Rattle.calls.proofs.Allowed.{elsewhere}
use Rattle.calls.proofs.OneCall.{either, call_away}
use Rattle.calls.proofs.Refusals.{wrap_number, wrap_exactly, unwrap_exactly, start_exactly, wrap_leaves, unwrap_leaves, start_leaves}

module _ {R : Type 0} (K : Records R) (i : Instance) (f : Bytes → Bytes) where
  closed : (x : R) → live (K.shows x).phase (K.shows x).at ≡ false → Closed K i f x
  closed x e = record { answers = all; session = still }
    where
      all : (cs : List Call) → outcomes K i f x cs ≡ map (turned_away x) cs
      all [] = refl
      all (c ∷ cs) = rw (call_away K i f x c e, all cs)

      still : (cs : List Call) → end_of K i f x cs ≡ x
      still [] = refl
      still (c ∷ cs) = rw (call_away K i f x c e) (still cs)

  -- a session with a text start other than 0 or 16
  elsewhere_closed : (x : R) → ((K.shows x).at ≡ 0 → ⊥) → ((K.shows x).at ≡ tag_len → ⊥) → Closed K i f x
  elsewhere_closed x p q = closed x (elsewhere (K.shows x).phase (K.shows x).at p q)

  -- ---- after a refusal by the tag: of a call (which then was an unwrap), or of a start
  call_fails : (x : R) (c : Call) → (call_of K i f x c).answer.number ≡ tag_differs → (call_of K i f x c).session ≡ K.failed
  call_fails x c = go c.decrypt
    where
      go : (d : Bool) → (call_of K i f x (either c d)).answer.number ≡ tag_differs → (call_of K i f x (either c d)).session ≡ K.failed
      go true e = ap (λ (o : Outcome R). o.session) ((unwrap_leaves K i f x c.message c.tag c.out).differs e)
      go false e =
          absurd (first_apart tag_differs (wrap_rules (K.shows x) c.message c.out c.tag) (omega arith) (omega arith)
          (sym (wrap_number K i f x c.message c.out c.tag) ∙ e))

  module _ (serves : Serves K i f) where
    unstarted_closed : Closed K i f K.unstarted
    unstarted_closed = closed K.unstarted (rw serves.unstarted)

    failed_closed : Closed K i f K.failed
    failed_closed = closed K.failed (rw serves.failed)

    -- ---- demand 1
    pub total : Total K i f
    total =
        record {
          wrap_exactly = wrap_exactly K i f;
          unwrap_exactly = unwrap_exactly K i f;
          start_exactly = start_exactly K i f;
          wrap_leaves = wrap_leaves K i f;
          unwrap_leaves = unwrap_leaves K i f;
          start_leaves = start_leaves K i f;
          call_closes = λ x c e. rw (call_fails x c e) failed_closed;
          start_closes = λ a e. subst (Closed K i f) (sym (ap (λ (o : Outcome R). o.session) ((start_leaves K i f a).differs e))) failed_closed;
          unstarted_closed = unstarted_closed;
          elsewhere_closed = elsewhere_closed;
        }
