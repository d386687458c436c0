-- The twelve last rounds on the bytes of the state: `rounds-bytes`, over l.
use Rattle.keccak.proofs.State.{rounds-bytes}
use Rattle.permutation.proofs.permute12.Goals as goal

pub returns : goal.returns
returns g c =
    let w = g.met.L.Lanes.width in
    rw w.bytes (rounds-bytes _ 12 _ w.least c.known.ensures.long c.known.ensures.small _ c.run.ensures)
