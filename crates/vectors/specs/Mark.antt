-- What the bytes around a lent buffer are marked with.
use Rattle.std.specs.Prelude.{List, ℕ, ◌≡◌, ◌<◌, ◌+◌, ◌%◌, bit_xor, length, slice_index}

-- the mark at place i
abbrev pub mark : ℕ → ℕ
mark i = bit_xor (i % 256) 165

-- each byte has its mark, where the first is at place `from`
abbrev pub AreMarked : List ℕ → (from : ℕ) → Type 0
AreMarked bytes from = (k : ℕ) → k < length bytes → slice_index bytes k ≡ mark (from + k)
