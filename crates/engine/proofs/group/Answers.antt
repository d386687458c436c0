-- where the text starts is the first block's place
use Rattle.keccak.specs.State.{bytes}
use Rattle.blocks.proofs.Numbers.{zero_lane}
use mathlib.Core.Path.{refl}
use Rattle.plan.proofs.Walk.{stage_next}
use Rattle.engine.proofs.group.Goals as goal

pub loop-going-preserved : goal.loop-going-preserved
loop-going-preserved g c =
    let w = c.loop-going.invariant.going c.loop-going-test.true in
    let q = c.requires.at_bound in
    let r = c.of.ensures in
    let m = c.more-more in
    let b = c.block-state in
    let t = c.of-2.ensures in
    let y = c.of-3.ensures in
    rw (c.next-cut.ensures, r.text, r.full, t, y, b.ensures.out_after)
    (stage_next w _ refl (zero_lane g.met.L.Lanes.width) g.met.L.Lanes.width.text_lane q.2 (bytes g.L.Lanes.BYTES (g.L.Lanes.lanes b.result)) m.result (rw (t, y) at m.ensures) (rw c.eom_at-mark.ensures at b.ensures.result_value))
