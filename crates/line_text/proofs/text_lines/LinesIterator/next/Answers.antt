-- `Lines::next`: what `first` says of the test, said of the bytes. The invariant comes first, so that an edit that breaks both falls there.
use Rattle.std.proofs.Common.{rules, ◌≡◌, ◌==◌, ◌<◌, length, true, false}
use Rattle.std.specs.List.{AllWithin, HoldsAt}
use Rattle.line_text.proofs.text_lines.LinesIterator.next.Goals as goal

pub invariant_of-self : goal.invariant_of-self
invariant_of-self c = search rules

pub returns-clause-steps : goal.returns-clause-steps
returns-clause-steps c =
    let rest = c.args.self.now.rest.now in
    let before : AllWithin (λ b. (b == 10) ≡ false) rest 0 c.first.result = λ k d l h. let fails = c.first.ensures.before k d l h in search rules in
    let found : c.first.result < length rest → HoldsAt (λ b. (b == 10) ≡ true) rest c.first.result = λ l d. let passes = c.first.ensures.found l d in search rules in
    search (rules, before, found)
