-- The proof that `endian::number` meets its contract.
use mathlib.Core.Path.{◌≡◌, refl, ◌∙◌}
use mathlib.Core.List.{reverse}
use Rattle.std.proofs.Common.{rules}
use Rattle.std.proofs.lemmas.Fn.{fold_over}
use Rattle.std.proofs.lemmas.Iterator.Adapters.{YieldsList-from_rev_slice}
use Rattle.std.proofs.lemmas.List.Sums.{fold_push}
use Rattle.std.specs.Iterator.Adapters.{rev_steps}
use Rattle.std.specs.List.{fold}
use Rattle.std.specs.Slice.Iter.{iter_steps_back}
use Rattle.endian.proofs.Laws.{byte_in, folded}
use Rattle.endian.proofs.number.Goals as goal

pub returns : goal.returns
returns c =
    let s = c.args.s.now in
    let back = YieldsList-from_rev_slice {s = c.rev.result} s cc in
    let e : c.fold.result ≡ fold byte_in 0 (reverse s) =
    fold_over (rev_steps iter_steps_back) (λ p. p.now) _ (λ vs x. x ≡ fold byte_in 0 vs) _ (λ vs x b y f' j k. search (rules, fold_push)) c.rev.result _ _ _ back.runs refl c.fold.ensures.ran in
    e ∙ folded s c.requires (λ i. (c.type_inv.s i).fits)
