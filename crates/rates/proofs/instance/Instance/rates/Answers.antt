-- `rates` meets its contract: each step is the definition's, and what leaves more bits has no fewer lanes.
use mathlib.Core.Path.{◌≡◌, refl}
use Prim.Native.Nat.{◌-◌, max}
use native.Mathlib.Omega.{arith}
use Rattle.std.proofs.Common.{rules}
use Rattle.motorist.specs.Instance.{text_rate, full_rate, pack_length, chain_length}
use Rattle.rates.proofs.Lanes.{more_lanes}
use Rattle.rates.proofs.instance.Instance.rates.Goals as goal

pub invariant_of-result : goal.invariant_of-result
invariant_of-result c =
    let a = c.args.self in
    let m : c.max.result.0 ≡ max a.capacity.0 32 = search rules in
    record { text_fits = rw (c.from.ensures, c.from-2.ensures, c.lanes_beside.ensures, c.lanes_beside-2.ensures, m) (more_lanes (a.width.0 - max a.capacity.0 32) (a.width.0 - 32) a.lane.0 a.bounded.0 (omega arith)) }

pub returns : goal.returns
unfolding text_rate full_rate pack_length chain_length
returns c =
    let m : c.max.result.0 ≡ max c.args.self.capacity.0 32 = search rules in
    record {
      text = rw (c.from.ensures, c.lanes_beside.ensures, m) refl;
      full = rw (c.from-2.ensures, c.lanes_beside-2.ensures) refl;
      pack = rw (c.from-3.ensures, c.lanes_around.ensures) refl;
      chain = rw (c.from-4.ensures, c.lanes_around-2.ensures) refl;
      tag = c.from-5.ensures;
    }
