-- The proof that `keyak::endings::riding` meets its contract.
use mathlib.Core.Path.{refl}
use Rattle.keyak.proofs.Records.{held}
use Rattle.keyak.proofs.endings.riding.Goals as goal

pub returns : goal.returns
returns g c =
    let k = g.met.L.Lanes in
    rw (held g.L.Lanes.lanes g.L.Lanes.of_lanes k.width k.back c.args.lanes c.known.ensures) refl
