-- What is left is the second of the two parts.
use Rattle.std.proofs.Common.{rules, tests, arith}
use Rattle.std.proofs.lemmas.List.Sorted.{answers_always}
use Rattle.vectors.specs.Line.{is_space}
use Rattle.vectors.proofs.Behind.{behind, weaken}
use Rattle.vectors.proofs.words.Words.word.Goals as goal

pub returns-clause-rest : goal.returns-clause-rest
returns-clause-rest c =
    let rest = c.next.new.self.parts.rest.now in
    let left = behind c.splitn-parts.result.parts.rest.now rest c.next.new.self.parts.done c.next.result c.next-self.result
    (weaken c.next.result c.next.ensures.steps.1 (λ n. search rules) (λ x s. (s.2, (s.4 (search (rules, arith)) is_space (answers_always _ _ _ (λ f a r g k. search (rules, tests)))).1)))
    (weaken c.next-self.result c.next-self.ensures.steps.1 (λ n. search (rules, arith)) (λ x s. (s.3, search (rules, arith, s.1, s.2)))) in
    search (rules, left)
