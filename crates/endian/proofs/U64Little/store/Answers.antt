-- The proof that `u64::store` meets its contract.
use mathlib.Core.Path.{sym, ◌∙◌}
use Rattle.endian.proofs.Laws.{stored}
use Rattle.endian.proofs.U64Little.store.Goals as goal

pub returns : goal.returns
returns c = c.copy_from_slice.ensures.after ∙ c.to_le_bytes.ensures ∙ sym (stored 8 c.args.self)
