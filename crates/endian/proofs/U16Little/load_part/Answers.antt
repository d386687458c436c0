-- The proof that `u16::load_part` meets its contract.
use borrow.Author.Rules.{rules}
use Rattle.endian.proofs.Laws.{few_lt}
use Rattle.endian.proofs.U16Little.load_part.Goals as goal

pub overflow_cast-result : goal.overflow_cast-result
overflow_cast-result c = record { fits = rw c.number.ensures (few_lt 2 c.args.s.now (search rules) (λ i. (c.type_inv.s i).fits)) }
