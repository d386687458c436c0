-- What is left of a line behind its first word.
use Rattle.std.specs.Prelude.{Bool, List, Option, ℕ, ◌+◌, ◌==◌, drop, option_map, position}

abbrev pub is_space : ℕ → Bool
is_space c = c == 32

-- what stands behind the first space, if there is one
abbrev pub behind_space : List ℕ → Option (List ℕ)
behind_space line = option_map (λ i. drop (i + 1) line) (position is_space line)
