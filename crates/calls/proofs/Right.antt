-- Demand 2, first half. In every chain of calls from a start, in which no tag differs and each is made on the record that the one before gave back, every accepted step puts
-- out the ciphertext or plaintext and the tag, answers the runs and leaves the session of motorist's definition at that step.
use mathlib.Core.Path.{◌≡◌, subst, ap₂, ◌∙◌}
use mathlib.Core.List.{List, [], ◌∷◌, ◌++◌, map, append-nil, append_assoc}
use Prim.Native.Nat.{ℕ}
use Rattle.table.specs.Numbers.{done}
use Rattle.table.specs.Choices.{asked}
use Rattle.motorist.specs.Instance.{Instance, Sound, solo, tag_len}
use Rattle.motorist.specs.Piston.{Bytes}
use Rattle.motorist.specs.Engine.{States}
use Rattle.motorist.specs.Motorist.{taken, start, message}
use Rattle.motorist.specs.Session.{Steps, steps}
use Rattle.calls.specs.Session.{Records, Serves}
use Rattle.calls.specs.Outcome.{wrapped}
use Rattle.calls.specs.Chain.{Call, StartCall, call_of, end_of, begins}
use Rattle.calls.specs.Words.{text_length, Unbroken, accepted_of, start_in, step_of, defined, text_start, Stands}
use Rattle.calls.specs.Promises.{and_then, RightAt, Right}
use Rattle.calls.proofs.Chains.{behind_tag, stands}
use Rattle.calls.proofs.OneCall.{call_done}
use Rattle.calls.proofs.Refusals.{start_leaves}
use Rattle.calls.proofs.Struck.{unbroken_front, struck, accepted_unrefused, unrefused_unbroken}

steps_then : (i : Instance) (f : Bytes → Bytes) (ss : States) (at : ℕ) (cs : List Call) (c : Call)
    → (let y : Steps = steps i f ss at (map step_of cs) in
    steps i f ss at (map step_of (cs ++ (c ∷ []))) ≡ and_then y (step_of c) (message i f c.decrypt y.states (text_start at cs) c.message))
steps_then i f ss at [] c = rw append-nil
steps_then i f ss at (d ∷ cs) c = rw (steps_then i f (message i f d.decrypt ss at d.message).states tag_len cs c, behind_tag cs, append_assoc)

module _ {b w k : ℕ} (ok : Sound (solo b w k)) (f : Bytes → Bytes) {R : Type 0} (K : Records R) (serves : Serves K (solo b w k) f) where
  abbrev one : Instance
  one = solo b w k

  right_at : (a : StartCall) (front : List Call) (c : Call) (back : List Call) → Unbroken K one f a (front ++ (c ∷ back))
      → (call_of K one f (end_of K one f (begins K one f a) front) c).answer.number ≡ done → RightAt K one f a front c
  right_at a front c back h d =
      let x : R = end_of K one f (begins K one f a) front in
      let u = unbroken_front K one f a front (c ∷ back) h in
      let s : Stands (K.shows x) (defined one f a (accepted_of K one f a front)) (text_start (taken (asked a.choice)) (accepted_of K one f a front)) =
      subst (λ (y : R). Stands (K.shows y) (defined one f a (accepted_of K one f a front)) (text_start (taken (asked a.choice)) (accepted_of K one f a front)))
      (struck K one f (begins K one f a) front u.calls).session (stands ok f K serves a (accepted_of K one f a front) (accepted_unrefused K one f a front u)) in
      record {
        definition = steps_then one f (start one f (start_in a)).states (taken (asked a.choice)) (accepted_of K one f a front) c;
        session = s;
        outcome =
            call_done K one f x c d
            ∙ ap₂ (λ (ss : States) (n : ℕ). wrapped K (message one f c.decrypt ss n c.message) (text_length c) c.out) s.states s.at;
      }

  pub right : Right K one f
  right = record { start = λ a. (start_leaves K one f a).done; struck = struck K one f; steps = right_at; unrefused = unrefused_unbroken K one f }
