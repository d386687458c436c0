-- The proof that `permutation::run` meets its contract.
use mathlib.Core.Path.{sym, ◌∙◌}
use Prim.Native.Nat.{◌+◌, ◌*◌}
use native.Mathlib.Omega.{arith}
use Rattle.keccak.proofs.Rounds.{last-turn, rounds_none}
use Rattle.permutation.proofs.run.Goals as goal

pub loop-k-preserved : goal.loop-k-preserved
loop-k-preserved g c =
    let w = g.met.L.Lanes.width in
    let before = c.loop-k.invariant in
    let next = last-turn _ c.args.rounds c.loop-k.k-index (12 + 2 * c.L.result) _ _ _ w.wide (omega arith) (omega arith) (omega arith)
    c.round_constants-constants.ensures c.round-after.ensures in
    (omega arith, next ∙ before.1)

pub returns : goal.returns
returns g c = sym (rounds_none _ _ _ (omega arith)) ∙ c.loop-k.invariant.1
