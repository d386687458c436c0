-- The proof that `piston::squeeze` meets its contract.
use Prim.Native.Nat.{◌≤◌}
use native.Mathlib.Omega.{arith}
use lib.ListN.{length}
use Rattle.keccak.specs.State.{bytes}
use Rattle.keccak.proofs.State.{bytes-length}
use Rattle.rates.specs.Counts.{chain_bytes}
use Rattle.piston.proofs.Turns.{squeezed}
use Rattle.piston.proofs.squeeze.Goals as goal

pub returns : goal.returns
returns g c =
    let a = c.args in
    let w = g.met.L.Lanes.width in
    let long : chain_bytes ≤ length (bytes g.L.Lanes.BYTES (g.L.Lanes.lanes a.lanes))
    = rw (bytes-length g.L.Lanes.BYTES (g.L.Lanes.lanes a.lanes), c.known.ensures.long) (omega (arith, w.chain, w.state, w.sound.chain_fits, w.sound.text_fits, w.sound.offsets_fit)) in
    squeezed (bytes g.L.Lanes.BYTES (g.L.Lanes.lanes a.lanes)) _ (length a.out.now) chain_bytes c.requires (omega (arith, long, c.requires)) c.stream.ensures
