-- The runs of the last call, and the output and the tag buffer as they are then.
use Rattle.std.specs.Prelude.{ℕ}
use Rattle.motorist.specs.Piston.{Bytes}

pub record Lent : Type 0 where
  pub runs : ℕ
  pub out : Bytes
  pub tag : Bytes

abbrev pub lent : ℕ → (out tag : Bytes) → Lent
lent n out tag = record { runs = n; out = out; tag = tag }
