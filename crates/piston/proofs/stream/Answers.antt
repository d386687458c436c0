-- The proof that `piston::stream` meets its contract.
use mathlib.Core.Path.{◌≡◌, refl, sym, ◌∙◌}
use Prim.Native.Nat.{◌*◌, ◌/◌}
use native.Mathlib.Omega.{arith}
use lib.ListN.{length}
use Rattle.endian.specs.Small.{Small}
use Rattle.keccak.specs.State.{bytes}
use Rattle.keccak.proofs.State.{bytes-length}
use Rattle.piston.proofs.Room.{first_lane, some_left, next_whole, in_lanes, last_lane}
use Rattle.piston.proofs.Turns.{part_fits, rest_fits, same_part, stream_turn, stream_rest}
use Rattle.piston.proofs.stream.Goals as goal

pub mask_lane-requires : goal.mask_lane-requires
mask_lane-requires g c =
    let w = g.met.L.Lanes.width in
    let b = c.BYTES-w.ensures in
    let a = c.args in
    let h = rw b at c.loop-j-test.true in
    let room = next_whole g.L.Lanes.BYTES a.p.0 (length a.s.now) w.some c.requires.0 c.requires.1 c.loop-j.j h in
    rw b (
      in_lanes g.L.Lanes.BYTES a.p.0 (length a.s.now) w.some c.requires.0 c.requires.1 c.loop-j.j h,
      part_fits g.L.Lanes.BYTES (g.L.Lanes.BYTES * c.loop-j.j) a.s.now room,
      same_part _ _ a.s.now c.loop-j.out (c.loop-j.invariant.0 ∙ c.requires.2),
    )

pub loop-j-preserved : goal.loop-j-preserved
loop-j-preserved g c =
    let w = g.met.L.Lanes.width in
    let b = c.BYTES-w.ensures in
    let a = c.args in
    let l = c.loop-j in
    let small : Small a.s.now = λ i. (c.type_inv.s i).fits in
    let h = rw b at c.loop-j-test.true in
    let in-lanes = in_lanes g.L.Lanes.BYTES a.p.0 (length a.s.now) w.some c.requires.0 c.requires.1 l.j h in
    let room = next_whole g.L.Lanes.BYTES a.p.0 (length a.s.now) w.some c.requires.0 c.requires.1 l.j h in
    let e = rw b at c.mask_lane.ensures in
    let i = rw b at l.invariant.1 in
    let all : g.L.Lanes.BYTES * length (g.L.Lanes.lanes a.lanes) ≡ length (bytes g.L.Lanes.BYTES (g.L.Lanes.lanes a.lanes)) = sym (bytes-length g.L.Lanes.BYTES (g.L.Lanes.lanes a.lanes)) in
    rw b
    (stream_turn g.L.Lanes.BYTES (a.p.0 / g.L.Lanes.BYTES) a.s.now small (g.L.Lanes.lanes a.lanes) l.j _ (rw c.known.ensures.long in-lanes) a.out.now l.out _ c.requires.2 room all i refl e)

pub mask_part-requires : goal.mask_part-requires
mask_part-requires g c =
    let w = g.met.L.Lanes.width in
    let b = c.BYTES-w.ensures in
    let a = c.args in
    let h = rw b at c.if-a-s.true in
    let long = c.loop-j.invariant.0 ∙ c.requires.2 in
    rw (b, long) (
      last_lane g.L.Lanes.BYTES a.p.0 (length a.s.now) w.some c.requires.0 c.requires.1 h,
      rest_fits g.L.Lanes.BYTES (length a.s.now) (g.L.Lanes.BYTES * (length a.s.now / g.L.Lanes.BYTES)) a.s.now (some_left g.L.Lanes.BYTES a.p.0 (length a.s.now) w.some c.requires.0),
      same_part _ _ a.s.now c.loop-j.out long,
    )

pub returns-then-a-s : goal.returns-then-a-s
returns-then-a-s g c =
    let w = g.met.L.Lanes.width in
    let b = c.BYTES-w.ensures in
    let a = c.args in
    let l = c.loop-j in
    let small : Small a.s.now = λ i. (c.type_inv.s i).fits in
    let h = rw b at c.if-a-s.true in
    let n : l.j ≡ length a.s.now / c.BYTES-w.result = omega arith in
    let i = rw (n, b) at l.invariant.1 in
    let e = rw b at c.mask_part.ensures in
    let last = last_lane g.L.Lanes.BYTES a.p.0 (length a.s.now) w.some c.requires.0 c.requires.1 h in
    let few = some_left g.L.Lanes.BYTES a.p.0 (length a.s.now) w.some c.requires.0 in
    let all : g.L.Lanes.BYTES * length (g.L.Lanes.lanes a.lanes) ≡ length (bytes g.L.Lanes.BYTES (g.L.Lanes.lanes a.lanes)) = sym (bytes-length g.L.Lanes.BYTES (g.L.Lanes.lanes a.lanes)) in
    let t = stream_rest g.L.Lanes.BYTES (a.p.0 / g.L.Lanes.BYTES) a.s.now small (g.L.Lanes.lanes a.lanes) (length a.s.now / g.L.Lanes.BYTES) _ (rw c.known.ensures.long last) a.out.now l.out _
    c.requires.2 (omega arith) (omega arith) all i refl e in
    rw b (rw (first_lane g.L.Lanes.BYTES a.p.0 (length a.s.now) w.some c.requires.0) at t)
