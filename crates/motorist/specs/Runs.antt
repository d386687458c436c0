-- How many rounds a group has, and how many permutation runs a message takes at one Piston, by 01's formula.
use Rattle.std.specs.Prelude.{Bool, true, false, ℕ, zero, suc, ◌+◌, ◌-◌, ◌*◌, max}
use Rattle.motorist.specs.Instance.{Instance, round_up, text_rate, full_rate}

-- the rounds with text, of t bytes from `at` on, where a round takes d
abbrev pub text_rounds : ℕ → ℕ → ℕ → ℕ
text_rounds d at zero = 0
text_rounds d at (suc t) = round_up (suc t + at) d

-- the rounds of metadata alone, of m bytes, where such a round takes e, and each of u rounds with text took g
abbrev pub meta_rounds : ℕ → ℕ → ℕ → ℕ → ℕ
meta_rounds e g u m = round_up (m - g * u) e

-- all rounds of a group
unfoldable pub rounds : ℕ → ℕ → ℕ → ℕ → ℕ → ℕ → ℕ
rounds d e g at t m = max 1 (text_rounds d at t + meta_rounds e g (text_rounds d at t) m)

-- ---- one Piston
-- the runs of a message of t bytes of text from `at` on and m of metadata, before a knot if it has one
abbrev pub runs : Instance → ℕ → ℕ → ℕ → ℕ
runs i at t m = rounds (text_rate i) (full_rate i) (full_rate i - text_rate i) at t m

-- forgetting takes one run more
abbrev pub knot_runs : Bool → ℕ
knot_runs true = 1
knot_runs false = 0

-- 01: after a tag and without forgetting, a message of p text and a metadata bytes in Lake takes max(1, u+v) runs:
-- u is 0 for p = 0, else (p+16)/168 rounded up; v is max(0, a-24u)/192 rounded up
abbrev pub u : ℕ → ℕ
u p = text_rounds 168 16 p

abbrev pub v : ℕ → ℕ → ℕ
v p a = meta_rounds 192 24 (u p) a
