-- `up_to`: what is left never grows.
use Rattle.std.proofs.Common.{◌≤◌, length}
use Rattle.line_text.proofs.line_words.up_to.Given as goal

abbrev pub invariant-loop : goal.invariant-loop
invariant-loop l = length l.words.rest.now ≤ length l.line
