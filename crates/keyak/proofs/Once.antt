-- Each public call's contract has one outcome, at every width of a lane: two that meet its `ensures` on the same entry values are equal, in the answer, the session and
-- every lent byte at exit. The hypotheses are the `ensures` itself, as the check makes it of the source, twice.
use mathlib.Core.Path.{◌≡◌, sym, ap, ap₂, ◌∙◌}
use mathlib.Core.List.{List}
use Prim.Native.Nat.{ℕ}
use denote.RattleType.{RattleType}
use denote.Param.Laws.{Laws, IsCopy}
use mir.Syntax.{Dict}
use Rattle.std.specs.Prelude.{Result}
use Rattle.std.specs.declared.clone.Clone as Clone
use Rattle.table.proofs.Once.{Once}
use Rattle.table.proofs.Answers.{answered}
use Rattle.table.specs.declared.Done.{Done}
use Rattle.table.specs.declared.refusal.Refusal.{Refusal}
use Rattle.lanes.specs.declared.Lanes as Lanes
use Rattle.calls.specs.Outcome.{Outcome}
use Rattle.permutation.proofs.Arrays.{Wide, Narrow, wide, narrow, wide_laws, wide_copy, narrow_laws, narrow_copy}
use Rattle.keyak.specs.Keyak.{outcome}
use Rattle.keyak.specs.declared.Session.{Session}
use Rattle.keyak.specs.declared.Turn.{Turn}
use Rattle.keyak.proofs.Session.unstarted.Kinds as unstarted
use Rattle.keyak.proofs.Session.unstarted.Reads as unstarted-contract
use Rattle.keyak.proofs.Session.start.Kinds as start
use Rattle.keyak.proofs.Session.start.Reads as start-contract
use Rattle.keyak.proofs.Session.wrap.Kinds as wrap
use Rattle.keyak.proofs.Session.wrap.Reads as wrap-contract
use Rattle.keyak.proofs.Session.unwrap.Kinds as unwrap
use Rattle.keyak.proofs.Session.unwrap.Reads as unwrap-contract

-- turns that say the same of the answer and hold the same session are the same
turned : {S : Type 0} (a b : Turn S) {out out' g g' : List ℕ} → outcome a out g ≡ outcome b out' g' → a ≡ b
turned {S} a b e =
    ap₂ (λ (x : Result Done Refusal) (y : Session S). record { answer = x; session = y }) (answered a.answer b.answer (ap (λ (o : Outcome (Session S)). o.answer) e))
    (ap (λ (o : Outcome (Session S)). o.session) e)

module _ (T : RattleType) (laws : Laws T) (copy : IsCopy T) (lanes : Lanes.Ghosts T.Denot) (lanes-dict : Dict) (clone : Clone.Ghosts T.Denot) (clone-dict : Dict) where
  abbrev Turned : Type 0
  Turned = Turn T.Denot

  pub unstarted_once : Once (Session T.Denot) _ (unstarted.ps T laws copy) (unstarted.r T laws copy) (unstarted-contract.Learnt T laws copy lanes lanes-dict clone clone-dict) (λ κs a x. a)
  unstarted_once κs entry a b x y p q = p ∙ sym q

  -- at exit the lent parts stand in the order of the parameters: of start the tag buffer is the fifth, of wrap the output and the tag are the fifth and sixth,
  -- of unwrap the output is the sixth
  pub start_once : Once (Turned × List ℕ) _ (start.ps T laws copy) (start.r T laws copy) (start-contract.Learnt T laws copy lanes lanes-dict clone clone-dict) (λ κs a x. (a, x.1.1.1.1.0.now))
  start_once κs entry a b x y p q =
      ap₂ (λ (t : Turned) (o : Outcome (Session T.Denot)). (t, o.tag)) (turned a b (p ∙ sym q)) (p ∙ sym q)

  pub wrap-once : Once (Turned × List ℕ × List ℕ) _ (wrap.ps T laws copy) (wrap.r T laws copy) (wrap-contract.Learnt T laws copy lanes lanes-dict clone clone-dict)
      (λ κs a x. (a, x.1.1.1.1.0.now, x.1.1.1.1.1.0.now))
  wrap-once κs entry a b x y p q =
      ap₂ (λ (t : Turned) (o : Outcome (Session T.Denot)). (t, o.out, o.tag)) (turned a b (p ∙ sym q)) (p ∙ sym q)

  pub unwrap-once : Once (Turned × List ℕ) _ (unwrap.ps T laws copy) (unwrap.r T laws copy) (unwrap-contract.Learnt T laws copy lanes lanes-dict clone clone-dict)
      (λ κs a x. (a, x.1.1.1.1.1.0.now))
  unwrap-once κs entry a b x y p q =
      ap₂ (λ (t : Turned) (o : Outcome (Session T.Denot)). (t, o.out)) (turned a b (p ∙ sym q)) (p ∙ sym q)

-- ---- and so of Lake and of River, with no premise: of any dictionaries that a call is handed
module _ (lanes-dict : Dict) (clone : Clone.Ghosts Wide.Denot) (clone-dict : Dict) where
  pub unstarted_once64 : Once (Session Wide.Denot) _ (unstarted.ps Wide wide_laws wide_copy) (unstarted.r Wide wide_laws wide_copy) (unstarted-contract.Learnt Wide wide_laws wide_copy wide lanes-dict clone clone-dict) (λ κs a x. a)
  unstarted_once64 = unstarted_once Wide wide_laws wide_copy wide lanes-dict clone clone-dict

  pub start_once64 : Once (Turn Wide.Denot × List ℕ) _ (start.ps Wide wide_laws wide_copy) (start.r Wide wide_laws wide_copy) (start-contract.Learnt Wide wide_laws wide_copy wide lanes-dict clone clone-dict) (λ κs a x. (a, x.1.1.1.1.0.now))
  start_once64 = start_once Wide wide_laws wide_copy wide lanes-dict clone clone-dict

  pub wrap-once64 : Once (Turn Wide.Denot × List ℕ × List ℕ) _ (wrap.ps Wide wide_laws wide_copy) (wrap.r Wide wide_laws wide_copy) (wrap-contract.Learnt Wide wide_laws wide_copy wide lanes-dict clone clone-dict)
      (λ κs a x. (a, x.1.1.1.1.0.now, x.1.1.1.1.1.0.now))
  wrap-once64 = wrap-once Wide wide_laws wide_copy wide lanes-dict clone clone-dict

  pub unwrap-once64 : Once (Turn Wide.Denot × List ℕ) _ (unwrap.ps Wide wide_laws wide_copy) (unwrap.r Wide wide_laws wide_copy) (unwrap-contract.Learnt Wide wide_laws wide_copy wide lanes-dict clone clone-dict)
      (λ κs a x. (a, x.1.1.1.1.1.0.now))
  unwrap-once64 = unwrap-once Wide wide_laws wide_copy wide lanes-dict clone clone-dict

module _ (lanes-dict : Dict) (clone : Clone.Ghosts Narrow.Denot) (clone-dict : Dict) where
  pub unstarted_once32 : Once (Session Narrow.Denot) _ (unstarted.ps Narrow narrow_laws narrow_copy) (unstarted.r Narrow narrow_laws narrow_copy) (unstarted-contract.Learnt Narrow narrow_laws narrow_copy narrow lanes-dict clone clone-dict) (λ κs a x. a)
  unstarted_once32 = unstarted_once Narrow narrow_laws narrow_copy narrow lanes-dict clone clone-dict

  pub start_once32 : Once (Turn Narrow.Denot × List ℕ) _ (start.ps Narrow narrow_laws narrow_copy) (start.r Narrow narrow_laws narrow_copy) (start-contract.Learnt Narrow narrow_laws narrow_copy narrow lanes-dict clone clone-dict) (λ κs a x. (a, x.1.1.1.1.0.now))
  start_once32 = start_once Narrow narrow_laws narrow_copy narrow lanes-dict clone clone-dict

  pub wrap-once32 : Once (Turn Narrow.Denot × List ℕ × List ℕ) _ (wrap.ps Narrow narrow_laws narrow_copy) (wrap.r Narrow narrow_laws narrow_copy) (wrap-contract.Learnt Narrow narrow_laws narrow_copy narrow lanes-dict clone clone-dict)
      (λ κs a x. (a, x.1.1.1.1.0.now, x.1.1.1.1.1.0.now))
  wrap-once32 = wrap-once Narrow narrow_laws narrow_copy narrow lanes-dict clone clone-dict

  pub unwrap-once32 : Once (Turn Narrow.Denot × List ℕ) _ (unwrap.ps Narrow narrow_laws narrow_copy) (unwrap.r Narrow narrow_laws narrow_copy) (unwrap-contract.Learnt Narrow narrow_laws narrow_copy narrow lanes-dict clone clone-dict)
      (λ κs a x. (a, x.1.1.1.1.1.0.now))
  unwrap-once32 = unwrap-once Narrow narrow_laws narrow_copy narrow lanes-dict clone clone-dict
