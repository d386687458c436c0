-- The proof that `blocks::inject` meets its contract.
use Prim.Native.Nat.{◌*◌, ◌^◌}
use Rattle.keccak.specs.State.{bytes, keccak_bytes}
use Rattle.plan.proofs.Knots.{inject-step}
use Rattle.blocks.proofs.inject.Goals as goal

pub returns : goal.returns
returns g c =
    let a = c.args in
    let l = g.L.Lanes.L in
    let e = rw (c.as_byte-end.ensures, c.of.ensures) at c.finish.ensures in
    inject-step (25 * 2 ^ g.L.Lanes.L) (2 ^ g.L.Lanes.L) 256 (keccak_bytes g.L.Lanes.L 12) g.met.L.Lanes.width.sound (bytes g.L.Lanes.BYTES (g.L.Lanes.lanes a.lanes)) a.meta.now a.eom c.requires
    (bytes g.L.Lanes.BYTES (g.L.Lanes.lanes c.finish.result)) e
