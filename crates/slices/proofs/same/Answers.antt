-- The proof that `slices::same` meets its contract.
use mathlib.Core.Path.{◌≡◌, refl, sym}
use Rattle.std.proofs.Common.{rules}
use Rattle.std.specs.List.{fold, zip}
use Rattle.std.proofs.lemmas.Fn.{fold_over, fronts}
use Rattle.std.proofs.lemmas.List.Sums.{fold_push}
use Rattle.std.proofs.lemmas.Iterator.{YieldsList-from_slice, YieldsList-from_zip, zips}
use Rattle.slices.proofs.Agree.{same_lengths, gathered, gather_bits}
use Rattle.slices.proofs.same.Goals as goal

pub returns-then-a-b : goal.returns-then-a-b
returns-then-a-b c = sym (same_lengths _ _ c.if-a-b.true)

pub returns : goal.returns
returns c =
    let a = c.args in
    let zipped = YieldsList-from_zip {s = c.zip.result} (YieldsList-from_slice a.a.now cc) (YieldsList-from_slice a.b.now cc) in
    let e : c.fold-diff.result ≡ fold gather_bits 0 (zip a.a.now a.b.now) =
    fold_over (zips fronts fronts) (λ p. (p.0.now, p.1.now)) _ (λ ps d. d ≡ fold gather_bits 0 ps) _ (λ ps d x e f' j k. search (rules, fold_push)) c.zip.result _ _ _ zipped.runs refl c.fold-diff.ensures.ran in
    rw e (gathered a.a.now a.b.now 0 c.if-a-b.false)
