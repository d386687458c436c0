-- The proof that `u16::load` meets its contract.
use native.Mathlib.Omega.{arith}
use borrow.Author.Rules.{rules}
use Rattle.endian.proofs.Laws.{loaded}
use Rattle.endian.proofs.U16Little.load.Goals as goal

pub returns : goal.returns
returns c = omega (arith, loaded 2 c.args.s.now (search rules), c.from_le_bytes.ensures)
