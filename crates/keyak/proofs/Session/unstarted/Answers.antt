-- The proof that `keyak::Session::unstarted` meets its contract.
use mathlib.Core.Path.{refl}
use Rattle.keyak.proofs.Records.{held_zero}
use Rattle.keyak.proofs.Session.unstarted.Goals as goal

pub returns : goal.returns
returns g c =
    let k = g.met.L.Lanes in
    rw (held_zero g.L.Lanes.lanes g.L.Lanes.of_lanes k.width k.back c.zero-lanes.result c.known.ensures c.zero-lanes.ensures) refl
