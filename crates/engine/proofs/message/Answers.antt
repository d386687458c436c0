-- The proof that `engine::message` meets its contract.
use mathlib.Core.Path.{◌∙◌}
use Rattle.keccak.specs.State.{bytes, keccak_bytes}
use Prim.Native.Nat.{◌*◌, ◌^◌}
use Rattle.motorist.proofs.Rides.{rode_as}
use Rattle.plan.proofs.Knots.{message_plain, message_knot}
use Rattle.engine.proofs.message.Goals as goal

pub returns-then-forget : goal.returns-then-forget
returns-then-forget g c =
    let a = c.args in
    let q = c.of-rates.ensures.chain in
    let b = c.as_byte.ensures in
    let h = c.group-chained in
    let z = message_knot (25 * 2 ^ g.L.Lanes.L) (2 ^ g.L.Lanes.L) 256 (keccak_bytes g.L.Lanes.L 12) g.met.L.Lanes.width.sound a.decrypt (bytes g.L.Lanes.BYTES (g.L.Lanes.lanes a.lanes)) a.at.0 a.text.now a.meta.now c.requires.at_bound.0 a.forget
    (bytes g.L.Lanes.BYTES (g.L.Lanes.lanes h.result.lanes)) (bytes g.L.Lanes.BYTES (g.L.Lanes.lanes c.knot.result.lanes)) h.result.runs c.if-forget.true (rw (b, q) at h.ensures.rode.states) (rw (b, q) at h.ensures.rode.runs)
    (rw c.eom_tag-eom.ensures at c.knot.ensures.lanes_value) in
    record { states = z.0; output = rw (b, q, z.1) at h.ensures.rode.output; runs = c.knot.ensures.runs_value ∙ z.2 }

pub returns : goal.returns
returns g c =
    let a = c.args in
    let h = c.group in
    let t = c.eom_tag-eom.ensures in
    let e = message_plain (25 * 2 ^ g.L.Lanes.L) (2 ^ g.L.Lanes.L) 256 (keccak_bytes g.L.Lanes.L 12) g.met.L.Lanes.width.sound a.decrypt (bytes g.L.Lanes.BYTES (g.L.Lanes.lanes a.lanes)) a.at.0 a.text.now a.meta.now c.requires.at_bound.0 a.forget c.if-forget.false in
    rode_as e (rw t at h.ensures.rode)
