-- A count over the rounds of KECCAK-f is refused; any other has its rounds done: `permutes_within` and `permutes_beyond`, over l.
use native.Mathlib.Omega.{arith}
use Rattle.keccak.proofs.Answers.{permutes_within, permutes_beyond}
use Rattle.permutation.proofs.permute.Goals as goal

pub returns-then-rounds-L : goal.returns-then-rounds-L
returns-then-rounds-L g c = permutes_beyond _ _ _ (omega arith)

pub returns : goal.returns
returns g c = permutes_within _ _ _ c.known.ensures.long c.known.ensures.small _ (omega arith) c.run-lanes.ensures
