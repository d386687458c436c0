-- The proof that `Opening::part` meets its contract.
use native.Mathlib.Omega.{arith}
use Rattle.plan.specs.Start.{start_bytes}
use Rattle.plan.proofs.StartBytes.{stretch_more}
use Rattle.plan.proofs.opening.Opening.part.Goals as goal

pub loop-j-preserved : goal.loop-j-preserved
loop-j-preserved c =
    let a = c.args in
    let l = c.loop-j in
    let o = start_bytes a.self.pack.0 a.self.key.now a.self.nonce.now in
    rw l.invariant (stretch_more o a.out.now a.from.0 l.j c.byte.result (omega arith) (omega arith) (rw c.add.ensures at c.byte.ensures))
