-- The proof that `Opening::part` meets its contract.
use mathlib.Core.Path.{◌≡◌}
use mathlib.Core.List.{◌++◌}
use lib.ListN.{take, drop}
use Rattle.plan.specs.Start.{start_bytes}
use Rattle.plan.proofs.opening.Opening.part.Given as goal

abbrev pub invariant-loop-j : goal.invariant-loop-j
invariant-loop-j l = l.out ≡ take l.j (drop l.from.0 (start_bytes l.self.pack.0 l.self.key.now l.self.nonce.now)) ++ drop l.j l.initial.out
