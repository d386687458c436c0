-- One call of a chain, be it a wrap or an unwrap, or its start: what being done says of what it was given, and what it leaves; and a call that is refused, or turned away.
use mathlib.Core.Path.{◌≡◌, refl, ap}
use mathlib.Core.Bool.{Bool, true, false, not}
use mathlib.Core.List.{[], ◌∷◌}
use lib.ListN.{length}
use Prim.Native.Nat.{ℕ, zero, suc}
use Rattle.table.specs.Numbers.{done, tag_differs}
use Rattle.table.specs.Refusals.{None}
use Rattle.table.proofs.Exact.{none_front, none_both}
use Rattle.slices.specs.Same.{same_bytes}
use Rattle.motorist.specs.Instance.{Instance}
use Rattle.motorist.specs.Piston.{Bytes}
use Rattle.motorist.specs.Motorist.{Message, tag, unwrap}
use Rattle.calls.specs.Session.{View, Records, live}
use Rattle.calls.specs.Outcome.{refused, wrap_rules, start_rules_of, wrapped, wrap_of, unwrap_of}
use Rattle.calls.specs.Chain.{Call, StartCall, call_of, start_call_of}
use Rattle.calls.specs.Words.{text_length, ride_of}
use Rattle.calls.specs.Promises.{tag_rule, unwrap_differs, start_differs, turned_away}
use Rattle.calls.specs.Allowed.{Allowed, AllowedStart}
use Rattle.calls.proofs.Allowed.{allowed, none_refused, allowed_start_lem, none_refused_start}
use Rattle.calls.proofs.Refusals.{wrap_exactly, unwrap_exactly, start_exactly, wrap_leaves, unwrap_leaves}

-- what the rules ask of a call on a session that shows v, and of a start
abbrev pub AllowedCall : View → Call → Type 0
AllowedCall v c = Allowed v.phase v.at (text_length c) (length c.message.meta) (length c.out) (length c.tag)

abbrev pub AllowedStartCall : StartCall → Type 0
AllowedStartCall a = AllowedStart (length a.key) (length a.nonce) a.choice (length a.tag)

-- the call c with the choice d to decrypt or not: laws of both go by cases of d
abbrev pub either : Call → Bool → Call
either c d = record { decrypt = d; message = c.message; out = c.out; tag = c.tag }

module _ {R : Type 0} (K : Records R) (i : Instance) (f : Bytes → Bytes) (x : R) where
  -- ---- a call that is done
  pub call_done : (c : Call) → (call_of K i f x c).answer.number ≡ done → call_of K i f x c ≡ wrapped K (ride_of i f (K.shows x) c) (text_length c) c.out
  call_done c = go c.decrypt
    where
      go : (d : Bool) → (call_of K i f x (either c d)).answer.number ≡ done → call_of K i f x (either c d) ≡ wrapped K (ride_of i f (K.shows x) (either c d)) (text_length c) c.out
      go true e = (unwrap_leaves K i f x c.message c.tag c.out).done e
      go false e = (wrap_leaves K i f x c.message c.out c.tag).done e

  pub call_allowed : (c : Call) → (call_of K i f x c).answer.number ≡ done → AllowedCall (K.shows x) c
  call_allowed c e = allowed (K.shows x).phase (K.shows x).at _ _ _ _ (go c.decrypt e)
    where
      go : (d : Bool) → (call_of K i f x (either c d)).answer.number ≡ done → None (wrap_rules (K.shows x) c.message c.out c.tag)
      go true h =
          none_front (wrap_rules (K.shows x) c.message c.out c.tag) (tag_rule (unwrap_differs i f (K.shows x) c.message c.tag))
          ((unwrap_exactly K i f x c.message c.tag c.out).done.0 h)
      go false h = (wrap_exactly K i f x c.message c.out c.tag).done.0 h

  -- a wrap of what is allowed is done
  pub wrap_does : (m : Message) (out g : Bytes) → Allowed (K.shows x).phase (K.shows x).at (length m.text) (length m.meta) (length out) (length g)
      → (wrap_of K i f x m out g).answer.number ≡ done
  wrap_does m out g a =
      (wrap_exactly K i f x m out g).done.1
      (none_refused (K.shows x).phase (K.shows x).at (length m.text) (length m.meta) (length out) (length g) a)

  -- an unwrap of what is allowed, with the right tag, is done
  pub unwrap_does : (c : Message) (g out : Bytes) → Allowed (K.shows x).phase (K.shows x).at (length c.text) (length c.meta) (length out) (length g)
      → same_bytes (tag (unwrap i f ((K.shows x).state ∷ []) (K.shows x).at c).states) g ≡ true → (unwrap_of K i f x c g out).answer.number ≡ done
  unwrap_does c g out a e =
      (unwrap_exactly K i f x c g out).done.1
      (none_both (wrap_rules (K.shows x) c out g) (tag_rule (unwrap_differs i f (K.shows x) c g))
      (none_refused (K.shows x).phase (K.shows x).at (length c.text) (length c.meta) (length out) (length g) a) (ap not e, tt))

  -- ---- a call that is refused, and not because its tag differs: all as it was
  pub call_refused : (c : Call) → ((call_of K i f x c).answer.number ≡ done → ⊥) → ((call_of K i f x c).answer.number ≡ tag_differs → ⊥)
      → call_of K i f x c ≡ refused (call_of K i f x c).answer.number x c.out c.tag
  call_refused c p q = go (call_of K i f x c).answer.number refl p q
    where
      by : (d : Bool) (n : ℕ) → (suc n ≡ tag_differs → ⊥) → (call_of K i f x (either c d)).answer.number ≡ suc n
          → call_of K i f x (either c d) ≡ refused (suc n) x c.out c.tag
      by true n h e = (unwrap_leaves K i f x c.message c.tag c.out).refusal n h e
      by false n h e = (wrap_leaves K i f x c.message c.out c.tag).refusal n e

      go : (n : ℕ) → (call_of K i f x c).answer.number ≡ n → (n ≡ done → ⊥) → (n ≡ tag_differs → ⊥) → call_of K i f x c ≡ refused n x c.out c.tag
      go zero e p q = absurd (p refl)
      go (suc n) e p q = by c.decrypt n q e

  -- ---- a call on a session that may not be used: 1, and all as it was
  pub call_away : (c : Call) → live (K.shows x).phase (K.shows x).at ≡ false → call_of K i f x c ≡ turned_away x c
  unfolding wrap_of unwrap_of
  call_away c e = go c.decrypt
    where
      go : (d : Bool) → call_of K i f x (either c d) ≡ turned_away x c
      go true = rw e
      go false = rw e

-- ---- a start that is done, and one that is to be
module _ {R : Type 0} (K : Records R) (i : Instance) (f : Bytes → Bytes) (a : StartCall) where
  pub start_allowed : (start_call_of K i f a).answer.number ≡ done → AllowedStartCall a
  start_allowed e =
      allowed_start_lem _ _ a.choice _
      (none_front (start_rules_of a.key a.nonce a.choice a.tag) (tag_rule (start_differs i f a)) ((start_exactly K i f a).done.0 e))

  pub start_does : AllowedStartCall a → start_differs i f a ≡ false → (start_call_of K i f a).answer.number ≡ done
  start_does h e =
      (start_exactly K i f a).done.1
      (none_both (start_rules_of a.key a.nonce a.choice a.tag) (tag_rule (start_differs i f a))
      (none_refused_start (length a.key) (length a.nonce) a.choice (length a.tag) h) (e, tt))
