-- The proof that `keyak::endings::judged` meets its contract.
use Rattle.keyak.proofs.endings.judged.Goals as goal

pub returns-then-right : goal.returns-then-right
returns-then-right g c = λ out tag. rw c.if-right.true (c.done.ensures out tag)
