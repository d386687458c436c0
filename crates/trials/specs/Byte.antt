-- What a byte by a pattern is.
use Rattle.std.specs.Prelude.{ℕ, ◌+◌, ◌*◌, ◌/◌, ◌%◌, ◌==◌, if◌then◌else◌}

-- byte i: `first` on and on where `step` is 0, else `step` more with each byte and `lift` more with each `period` of them
abbrev pub byte_at : (first step period lift : ℕ) → ℕ → ℕ
byte_at first step period lift i = if step == 0 then first else (first + step * i + lift * (i / period)) % 256
