-- A run of bytes at its place in the state: zeros before it.
use Rattle.std.specs.Prelude.{◌++◌, ℕ, replicate}
use Rattle.motorist.specs.Piston.{Bytes}

abbrev pub placed : ℕ → Bytes → Bytes
placed p v = replicate p 0 ++ v
