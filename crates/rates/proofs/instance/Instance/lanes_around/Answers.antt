-- `lanes_around` meets its contract: std rounds up as document 003 does.
use mathlib.Core.Path.{refl}
use Rattle.rates.proofs.Lanes.{rounded_up}
use Rattle.rates.proofs.instance.Instance.lanes_around.Goals as goal

pub returns : goal.returns
returns c = let a = c.args in rw (c.div_ceil.ensures, rounded_up a.n.0 a.self.lane.0 a.self.bounded.0) refl
