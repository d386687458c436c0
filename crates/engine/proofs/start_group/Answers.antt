-- The proof that `engine::start_group` meets its contract.
use Rattle.keccak.specs.State.{bytes, keccak_bytes}
use Rattle.std.proofs.Common.{rules}
use Prim.Native.Nat.{◌*◌, ◌^◌}
use Prim.Native.Nat.{◌≤◌, ◌<◌}
use native.Mathlib.Omega.{arith}
use Rattle.plan.proofs.Knots.{starting_more, starting_last}
use Rattle.engine.proofs.start_group.Goals as goal

pub loop-full-preserved : goal.loop-full-preserved
loop-full-preserved g c =
    let a = c.args.opening in
    let f = c.of.ensures.full in
    let n = rw c.requires at c.length-total.ensures.value in
    let h : c.of.result.full.0 < c.left.result.0 = search rules in
    let o = c.start_block-state in
    rw (c.add-done.ensures, f) (starting_more (25 * 2 ^ g.L.Lanes.L) (2 ^ g.L.Lanes.L) 256 (keccak_bytes g.L.Lanes.L 12) g.met.L.Lanes.width.sound a.key.now a.nonce.now c.loop-full.invariant (bytes g.L.Lanes.BYTES (g.L.Lanes.lanes o.result)) (omega (arith, n, f, c.left.ensures)) (rw (f, c.requires) at o.ensures))

pub returns : goal.returns
returns g c =
    let a = c.args.opening in
    let f = c.of.ensures.full in
    let n = rw c.requires at c.length-total.ensures.value in
    let h : c.left.result.0 ≤ c.of.result.full.0 = search rules in
    let i = c.loop-full.invariant in
    let o = c.start_block in
    let z = starting_last (25 * 2 ^ g.L.Lanes.L) (2 ^ g.L.Lanes.L) 256 (keccak_bytes g.L.Lanes.L 12) g.met.L.Lanes.width.sound a.key.now a.nonce.now i (bytes g.L.Lanes.BYTES (g.L.Lanes.lanes o.result)) (omega (arith, n, f, c.left.ensures)) (rw (c.left-2.ensures, n, c.requires) at o.ensures) in
    record { lanes_value = z.0; runs_value = (z.1, omega (arith, n, c.length-total.ensures.few, i.within, i.few)) }
