-- The proof that `engine::start` meets its contract.
use Rattle.keccak.specs.State.{bytes, keccak_bytes}
use Prim.Native.Nat.{◌*◌, ◌^◌}
use mathlib.Core.Path.{ap, ◌∙◌}
use lib.ListN.{length}
use Rattle.motorist.specs.Engine.{Ride}
use Rattle.plan.proofs.Knots.{start_plain, start_knot}
use Rattle.engine.proofs.start.Goals as goal

pub returns-then-forget : goal.returns-then-forget
returns-then-forget g c =
    let a = c.args in
    let q = c.of-rates.ensures.chain in
    let b = c.as_byte.ensures in
    let h = c.start_group-chained in
    let z = start_knot (25 * 2 ^ g.L.Lanes.L) (2 ^ g.L.Lanes.L) 256 (keccak_bytes g.L.Lanes.L 12) g.met.L.Lanes.width.sound a.key.now a.nonce.now a.forget a.tagged (bytes g.L.Lanes.BYTES (g.L.Lanes.lanes h.result.lanes)) (bytes g.L.Lanes.BYTES (g.L.Lanes.lanes c.knot.result.lanes)) h.result.runs
    c.if-forget.true (rw (b, q) at h.ensures.lanes_value) (rw (b, q) at h.ensures.runs_value.0) (rw c.eom_of-eom.ensures at c.knot.ensures.lanes_value) in record { lanes_value = z.0; runs_value = c.knot.ensures.runs_value ∙ z.1 }

pub returns : goal.returns
returns g c =
    let a = c.args in
    let h = c.start_group in
    let e = start_plain (25 * 2 ^ g.L.Lanes.L) (2 ^ g.L.Lanes.L) 256 (keccak_bytes g.L.Lanes.L 12) g.met.L.Lanes.width.sound a.key.now a.nonce.now a.forget a.tagged c.if-forget.false in
    let w = c.eom_of-eom.ensures in record { lanes_value = rw w at h.ensures.lanes_value ∙ ap (λ (x : Ride). x.states) e; runs_value = rw w at h.ensures.runs_value.0 ∙ ap (λ (x : Ride). length x.blocks) e }
