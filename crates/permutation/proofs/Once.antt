-- The public call's contract has one outcome, at every width of a lane: two answers that meet its `ensures` on the same lanes and the same count are equal. The
-- hypotheses are the `ensures` itself, as the check makes it of the source, twice, and the law of the trait that lanes are the numbers that they hold.
use mathlib.Core.Path.{◌≡◌, refl, sym, ap, ap₂, ◌∙◌}
use Prim.Native.Nat.{ℕ}
use denote.RattleType.{RattleType}
use denote.Param.Laws.{Laws, IsCopy}
use mir.Syntax.{Dict}
use Rattle.std.specs.declared.clone.Clone as Clone
use Rattle.table.proofs.Once.{Once}
use Rattle.keccak.proofs.Answers.{answers_same}
use Rattle.lanes.specs.declared.Lanes as Lanes
use Rattle.permutation.specs.declared.Permuted.{Permuted}
use Rattle.permutation.proofs.Arrays.{Wide, Narrow, wide, narrow, wide_laws, wide_copy, narrow_laws, narrow_copy}
use Rattle.permutation.proofs.permute.Kinds as permute
use Rattle.permutation.proofs.permute.Reads as permute-contract

module _ (T : RattleType) (laws : Laws T) (copy : IsCopy T) (lanes : Lanes.Ghosts T.Denot) (lanes-dict : Dict) (clone : Clone.Ghosts T.Denot) (clone-dict : Dict)
    (back : (x : T.Denot) → lanes.of_lanes (lanes.lanes x) ≡ x) where
  pub permute_once : Once (Permuted T.Denot) _ (permute.ps T laws copy) (permute.r T laws copy) (permute-contract.Learnt T laws copy lanes lanes-dict clone clone-dict) (λ κs a x. a)
  permute_once κs entry a b x y p q =
      let e = answers_same p q in
      let l : a.lanes ≡ b.lanes = sym (back a.lanes) ∙ ap lanes.of_lanes e.1 ∙ back b.lanes in
      ap₂ (λ (n : ℕ) (s : T.Denot). record { rounds = n; lanes = s }) e.0 l

-- ---- and so at each of the two types of lanes that there are, with no premise: of any dictionaries that a call is handed
module _ (lanes-dict : Dict) (clone : Clone.Ghosts Wide.Denot) (clone-dict : Dict) where
  pub permute_once64 : Once (Permuted Wide.Denot) _ (permute.ps Wide wide_laws wide_copy) (permute.r Wide wide_laws wide_copy)
      (permute-contract.Learnt Wide wide_laws wide_copy wide lanes-dict clone clone-dict) (λ κs a x. a)
  permute_once64 = permute_once Wide wide_laws wide_copy wide lanes-dict clone clone-dict (λ x. refl)

module _ (lanes-dict : Dict) (clone : Clone.Ghosts Narrow.Denot) (clone-dict : Dict) where
  pub permute_once32 : Once (Permuted Narrow.Denot) _ (permute.ps Narrow narrow_laws narrow_copy) (permute.r Narrow narrow_laws narrow_copy)
      (permute-contract.Learnt Narrow narrow_laws narrow_copy narrow lanes-dict clone clone-dict) (λ κs a x. a)
  permute_once32 = permute_once Narrow narrow_laws narrow_copy narrow lanes-dict clone clone-dict (λ x. refl)
