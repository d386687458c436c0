-- The proof that `blocks::block` meets its contract.
use mathlib.Core.Path.{refl}
use lib.ListN.{length}
use Rattle.keccak.specs.State.{bytes, keccak_bytes}
use Rattle.lanes.specs.Width.{instance}
use Rattle.plan.proofs.Step.{step}
use Rattle.blocks.proofs.block.Goals as goal

pub returns : goal.returns
returns g c =
    let a = c.args in
    record {
      result_value = step (instance g.L.Lanes.L) (keccak_bytes g.L.Lanes.L 12) a.decrypt g.L.Lanes.BYTES (length a.out.now) a.cut (bytes g.L.Lanes.BYTES (g.L.Lanes.lanes a.lanes)) a.text.now a.meta.now a.eom c.requires
          (bytes g.L.Lanes.BYTES (g.L.Lanes.lanes c.crypt-texted.result)) (bytes g.L.Lanes.BYTES (g.L.Lanes.lanes c.finish.result)) c.crypt-texted.ensures.result_value (rw c.offsets.ensures at c.finish.ensures);
      out_after = rw c.crypt-texted.ensures.out_after refl;
    }
