-- The chain tells whether each pair is the digits of its byte, and so the whole: `hex_all`.
use Rattle.std.proofs.Common.{◌≡◌, sym, ◌∙◌, arith, rules, length, subst, tests, true, ◌/◌}
use Rattle.std.specs.List.{zip, list_all}
use Rattle.std.specs.Simd.{first_chunks}
use Rattle.std.proofs.lemmas.Iterator.{YieldsList-from_slice, YieldsList-from_zip}
use Rattle.std.proofs.lemmas.Iterator.Search.{all_from_yields_List}
use Rattle.world.proofs.Digits.{is_pair_of, hex_all}
use Rattle.world.proofs.compare.agrees.Goals as goal

pub returns-then-hex-got : goal.returns-then-hex-got
returns-then-hex-got c t =
    let got = c.args.got.now in
    let hex = c.args.hex.now in
    let half : length hex / 2 ≡ length got = omega (arith, c.if-hex-got.true) in
    let zipped = YieldsList-from_zip {s = c.zip.result} (YieldsList-from_slice got cc) (YieldsList-from_slice (first_chunks 2 (length hex / 2) hex) cc) in
    let all = all_from_yields_List is_pair_of c.all.new.self _ c.all.result c.all.ensures.ran zipped (λ x b q k. search (rules, tests)) in
    hex_all got hex c.if-hex-got.true (subst (λ n. list_all is_pair_of (zip got (first_chunks 2 n hex)) ≡ true) half (sym all ∙ t))
