-- What a call of the permutation does to the 25 lanes s of 2 ^ l bits, asked for n rounds.
-- A count from 1 to 12 + 2 l does that many of the last rounds and answers it; any other does none, answers 0 and returns the lanes as given.
use Rattle.std.specs.Prelude.{◌≡◌, Bool, true, false, ◌&&◌, List, ℕ, ◌+◌, ◌*◌, ◌^◌, ltb, leb}
use Rattle.keccak.specs.Keccak.{keccak_p, when}
use Rattle.keccak.specs.Lanes.{bits, lanes_of}

-- the count n may be asked
abbrev pub asked : ℕ → ℕ → Bool
asked l n = ltb 0 n && leb n (12 + 2 * l)

-- the rounds done
unfoldable pub rounds_done : ℕ → ℕ → ℕ
rounds_done l n = when (asked l n) n

-- the lanes returned
abbrev pub chosen : Bool → List ℕ → List ℕ → List ℕ
chosen true t s = t
chosen false t s = s

unfoldable pub permuted : ℕ → ℕ → List ℕ → List ℕ
permuted l n s = chosen (asked l n) (lanes_of (2 ^ l) (keccak_p l n (bits s))) s

pub record Permutes (l n : ℕ) (s : List ℕ) (rounds : ℕ) (lanes : List ℕ) : Type 0 where
  pub rounds_told : rounds ≡ rounds_done l n
  pub lanes_permuted : lanes ≡ permuted l n s
