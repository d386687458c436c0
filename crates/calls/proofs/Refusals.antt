-- Demand 1, of each call: a refusal is answered exactly when its condition holds and none before it in the order does, and 0 exactly when none does;
-- and what each answer leaves of the session and of every lent byte.
use mathlib.Core.Path.{◌≡◌, refl}
use mathlib.Core.Bool.{Bool, true, false, not, ◌&&◌}
use mathlib.Core.List.{[], ◌∷◌}
use Prim.Native.Nat.{ℕ, zero, suc}
use native.Mathlib.Omega.{arith}
use lib.ListN.{length}
use Rattle.table.specs.Numbers.{tag_differs}
use Rattle.table.specs.Refusals.{first, if_done, Exact}
use Rattle.table.specs.declared.StartTag.{StartTag}
use Rattle.table.specs.declared.StartTag.TheVariants.{None, Produced, Checked}
use Rattle.table.proofs.Exact.{exact_is, first_apart, number_in_order}
use Rattle.slices.specs.Same.{same_bytes}
use Rattle.slices.proofs.Agree.{same_equal}
use Rattle.motorist.specs.Instance.{Instance}
use Rattle.motorist.specs.Piston.{Bytes}
use Rattle.motorist.specs.Engine.{Ride}
use Rattle.motorist.specs.Motorist.{Message, tag, start, wrap, unwrap}
use Rattle.calls.specs.Session.{View, Records}
use Rattle.calls.specs.Outcome.{Outcome, refused, wrap_rules, start_rules_of, wrapped, unwrapped, checked, started, wrap_of, unwrap_of, start_of}
use Rattle.calls.specs.Chain.{StartCall, start_call_of}
use Rattle.calls.specs.Words.{start_in}
use Rattle.calls.specs.Promises.{tag_rule, checks, unwrap_differs, start_differs, unwrap_rules, start_call_rules, WrapLeaves, UnwrapLeaves, StartLeaves}

-- ---- the number that a tag decides
module _ {R : Type 0} (K : Records R) where
  unwrapped_number : (b : Bool) (r : Ride) (t : ℕ) (out g : Bytes) → (unwrapped K b r t out g).answer.number ≡ first (tag_rule (not b))
  unwrapped_number true r t out g = refl
  unwrapped_number false r t out g = refl

  checked_number : (b : Bool) (r : Ride) (g : Bytes) → (checked K b r g).answer.number ≡ first (tag_rule (not b))
  checked_number true r g = refl
  checked_number false r g = refl

  started_number : (choice : StartTag) (r : Ride) (g : Bytes) → (started K choice r g).answer.number ≡ first (tag_rule (checks choice && not (same_bytes (tag r.states) g)))
  started_number None r g = refl
  started_number Produced r g = refl
  started_number Checked r g = checked_number (same_bytes (tag r.states) g) r g

module _ {R : Type 0} (K : Records R) (i : Instance) (f : Bytes → Bytes) where
  abbrev number : Outcome R → ℕ
  number o = o.answer.number

  -- ---- which number is answered, and exactly when
  pub wrap_number : (x : R) (m : Message) (out g : Bytes) → (wrap_of K i f x m out g).answer.number ≡ first (wrap_rules (K.shows x) m out g)
  unfolding wrap_of
  wrap_number x m out g = number_in_order number (wrap_rules (K.shows x) m out g) [] _ _ (omega arith) refl refl

  pub unwrap_number : (x : R) (c : Message) (g out : Bytes) → (unwrap_of K i f x c g out).answer.number ≡ first (unwrap_rules i f (K.shows x) c g out)
  unfolding unwrap_of
  unwrap_number x c g out =
      let v : View = K.shows x in
      let r : Ride = unwrap i f (v.state ∷ []) v.at c in
      number_in_order number (wrap_rules v c out g) (tag_rule (unwrap_differs i f v c g)) _ _ (omega arith) refl
      (unwrapped_number K (same_bytes (tag r.states) g) r (length c.text) out g)

  pub start_number : (a : StartCall) → (start_call_of K i f a).answer.number ≡ first (start_call_rules i f a)
  unfolding start_of
  start_number a =
      number_in_order number (start_rules_of a.key a.nonce a.choice a.tag) (tag_rule (start_differs i f a)) _ _ (omega arith) refl
      (started_number K a.choice (start i f (start_in a)) a.tag)

  pub wrap_exactly : (x : R) (m : Message) (out g : Bytes) → Exact (wrap_of K i f x m out g).answer.number (wrap_rules (K.shows x) m out g)
  wrap_exactly x m out g = exact_is (wrap_rules (K.shows x) m out g) (omega arith) (wrap_number x m out g)

  pub unwrap_exactly : (x : R) (c : Message) (g out : Bytes) → Exact (unwrap_of K i f x c g out).answer.number (unwrap_rules i f (K.shows x) c g out)
  unwrap_exactly x c g out = exact_is (unwrap_rules i f (K.shows x) c g out) (omega arith) (unwrap_number x c g out)

  pub start_exactly : (a : StartCall) → Exact (start_call_of K i f a).answer.number (start_call_rules i f a)
  start_exactly a = exact_is (start_call_rules i f a) (omega arith) (start_number a)

  -- ---- what each answer leaves
  pub wrap_leaves : (x : R) (m : Message) (out g : Bytes)
      → WrapLeaves K (wrap_of K i f x m out g) x (wrap i f ((K.shows x).state ∷ []) (K.shows x).at m) (length m.text) out g
  unfolding wrap_of
  wrap_leaves x m out g = go (first (wrap_rules (K.shows x) m out g)) (wrap i f ((K.shows x).state ∷ []) (K.shows x).at m) (length m.text)
    where
      go : (n : ℕ) (r : Ride) (t : ℕ) → WrapLeaves K (if_done n (wrapped K r t out) (refused n x out g)) x r t out g
      go zero r t = record { refusal = λ k e. absurd (omega arith); done = λ e. refl }
      go (suc n) r t = record { refusal = λ k e. rw e; done = λ e. absurd (omega arith) }

  pub unwrap_leaves : (x : R) (c : Message) (g out : Bytes)
      → UnwrapLeaves K (unwrap_of K i f x c g out) x (unwrap i f ((K.shows x).state ∷ []) (K.shows x).at c) (length c.text) out g
  unfolding unwrap_of
  unwrap_leaves x c g out =
      let r : Ride = unwrap i f ((K.shows x).state ∷ []) (K.shows x).at c in
      go (first (wrap_rules (K.shows x) c out g)) (same_bytes (tag r.states) g) r (length c.text)
      (first_apart tag_differs (wrap_rules (K.shows x) c out g) (omega arith) (omega arith)) (same_equal (tag r.states) g)
    where
      go : (n : ℕ) (b : Bool) (r : Ride) (t : ℕ) → (n ≡ tag_differs → ⊥) → (b ≡ true → tag r.states ≡ g)
          → UnwrapLeaves K (if_done n (unwrapped K b r t out g) (refused n x out g)) x r t out g
      go zero true r t h e =
          record { refusal = λ k l d. absurd (omega arith); differs = λ d. absurd (omega arith); done = λ d. rw (e refl); kept = refl }
      go zero false r t h e =
          record { refusal = λ k l d. absurd (l (rw d)); differs = λ d. refl; done = λ d. absurd (omega arith); kept = refl }
      go (suc n) b r t h e =
          record { refusal = λ k l d. rw d; differs = λ d. absurd (h d); done = λ d. absurd (omega arith); kept = refl }

  pub start_leaves : (a : StartCall) → StartLeaves K (start_call_of K i f a) a.choice (start i f (start_in a)) a.tag
  unfolding start_of
  start_leaves a =
      go (first (start_rules_of a.key a.nonce a.choice a.tag)) a.choice (start i f (start_in a))
      (first_apart tag_differs (start_rules_of a.key a.nonce a.choice a.tag) (omega arith) (omega arith))
    where
      tried : (b : Bool) (r : Ride) → (b ≡ true → tag r.states ≡ a.tag) → StartLeaves K (checked K b r a.tag) Checked r a.tag
      tried true r e =
          record { refusal = λ k l d. absurd (omega arith); differs = λ d. absurd (omega arith); done = λ d. rw (e refl); kept = λ p. refl }
      tried false r e =
          record { refusal = λ k l d. absurd (l (rw d)); differs = λ d. refl; done = λ d. absurd (omega arith); kept = λ p. refl }

      go : (n : ℕ) (u : StartTag) (r : Ride) → (n ≡ tag_differs → ⊥) → StartLeaves K (if_done n (started K u r a.tag) (refused n K.unstarted [] a.tag)) u r a.tag
      go zero None r h =
          record { refusal = λ k l d. absurd (omega arith); differs = λ d. absurd (omega arith); done = λ d. refl; kept = λ p. refl }
      go zero Produced r h =
          record { refusal = λ k l d. absurd (omega arith); differs = λ d. absurd (omega arith); done = λ d. refl; kept = λ p. absurd (p refl) }
      go zero Checked r h = tried (same_bytes (tag r.states) a.tag) r (same_equal (tag r.states) a.tag)
      go (suc n) u r h =
          record { refusal = λ k l d. rw d; differs = λ d. absurd (h d); done = λ d. absurd (omega arith); kept = λ p. refl }
