-- The proof that `u16::store` meets its contract.
use mathlib.Core.Path.{sym, ◌∙◌}
use Rattle.endian.proofs.Laws.{stored}
use Rattle.endian.proofs.U16Little.store.Goals as goal

pub returns : goal.returns
returns c = c.copy_from_slice.ensures.after ∙ c.to_le_bytes.ensures ∙ sym (stored 2 c.args.self)
