-- The proof that `piston::xor_in` meets its contract.
use mathlib.Core.Path.{◌≡◌, refl}
use Prim.Native.Nat.{◌*◌, ◌/◌}
use native.Mathlib.Omega.{arith}
use lib.ListN.{length, length-set}
use Rattle.endian.specs.Small.{Small}
use Rattle.piston.proofs.Room.{first_lane, some_left, next_whole, in_lanes, last_lane}
use Rattle.piston.proofs.Turns.{part_fits, rest_fits, xor_in_none, xor_in_turn, xor_in_rest}
use Rattle.piston.proofs.xor_in.Goals as goal

pub loop-j-init : goal.loop-j-init
loop-j-init g c = (c.known.ensures.long, xor_in_none g.L.Lanes.BYTES (c.args.p.0 / c.BYTES-w.result) c.args.s.now _)

pub xor_lane-requires : goal.xor_lane-requires
xor_lane-requires g c =
    let w = g.met.L.Lanes.width in
    let b = c.BYTES-w.ensures in
    let a = c.args in
    let h = rw b at c.loop-j-test.true in
    let room = next_whole g.L.Lanes.BYTES a.p.0 (length a.s.now) w.some c.requires.0 c.requires.1 c.loop-j.j h in
    rw b (in_lanes g.L.Lanes.BYTES a.p.0 (length a.s.now) w.some c.requires.0 c.requires.1 c.loop-j.j h, part_fits g.L.Lanes.BYTES (g.L.Lanes.BYTES * c.loop-j.j) a.s.now room)

pub loop-j-preserved : goal.loop-j-preserved
loop-j-preserved g c =
    let w = g.met.L.Lanes.width in
    let b = c.BYTES-w.ensures in
    let a = c.args in
    let l = c.loop-j in
    let small : Small a.s.now = λ i. (c.type_inv.s i).fits in
    let h = rw b at c.loop-j-test.true in
    let in-lanes = in_lanes g.L.Lanes.BYTES a.p.0 (length a.s.now) w.some c.requires.0 c.requires.1 l.j h in
    let room = next_whole g.L.Lanes.BYTES a.p.0 (length a.s.now) w.some c.requires.0 c.requires.1 l.j h in
    let e = rw b at c.xor_lane.ensures in
    let i = rw b at l.invariant.1 in
    let t = xor_in_turn g.L.Lanes.BYTES (a.p.0 / g.L.Lanes.BYTES) a.s.now small _ l.j _ (rw l.invariant.0 in-lanes) _ room i refl in
    rw (b, e) (simp length-set l.invariant.0, t)

pub xor_part-requires : goal.xor_part-requires
xor_part-requires g c =
    let w = g.met.L.Lanes.width in
    let b = c.BYTES-w.ensures in
    let a = c.args in
    let h = rw b at c.if-a-s.true in
    rw b (
      last_lane g.L.Lanes.BYTES a.p.0 (length a.s.now) w.some c.requires.0 c.requires.1 h,
      rest_fits g.L.Lanes.BYTES (length a.s.now) (g.L.Lanes.BYTES * (length a.s.now / g.L.Lanes.BYTES)) a.s.now (some_left g.L.Lanes.BYTES a.p.0 (length a.s.now) w.some c.requires.0),
    )

pub returns-then-a-s : goal.returns-then-a-s
returns-then-a-s g c =
    let w = g.met.L.Lanes.width in
    let b = c.BYTES-w.ensures in
    let a = c.args in
    let l = c.loop-j in
    let small : Small a.s.now = λ i. (c.type_inv.s i).fits in
    let h = rw b at c.if-a-s.true in
    let n : l.j ≡ length a.s.now / c.BYTES-w.result = omega arith in
    let i = rw (n, b) at l.invariant.1 in
    let e = rw b at c.xor_part.ensures in
    let last = last_lane g.L.Lanes.BYTES a.p.0 (length a.s.now) w.some c.requires.0 c.requires.1 h in
    let few = some_left g.L.Lanes.BYTES a.p.0 (length a.s.now) w.some c.requires.0 in
    let t = xor_in_rest g.L.Lanes.BYTES (a.p.0 / g.L.Lanes.BYTES) a.s.now small _ (length a.s.now / g.L.Lanes.BYTES) _ (rw l.invariant.0 last) _ (omega arith) (omega arith) i refl in
    rw e (rw (first_lane g.L.Lanes.BYTES a.p.0 (length a.s.now) w.some c.requires.0) at t)
