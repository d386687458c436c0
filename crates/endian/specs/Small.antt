-- Strings of bytes: lists whose every element is below 256. The code's slices of u8 are such lists.
use Rattle.std.specs.Prelude.{List, ℕ, ◌^◌, ◌<◌, get_or}

abbrev pub Small : List ℕ → Type 0
Small s = (i : ℕ) → get_or s i 0 < 2 ^ 8
