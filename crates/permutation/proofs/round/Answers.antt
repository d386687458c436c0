-- The proof that `permutation::round` meets its contract.
use Rattle.keccak.proofs.Rounds.{round_made}
use Rattle.permutation.proofs.round.Goals as goal

pub returns : goal.returns
returns g c = round_made _ _ _ _ _ _ _ c.theta.ensures c.rho_pi.ensures c.chi.ensures c.iota.ensures
