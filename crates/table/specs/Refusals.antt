-- Which refusal a call gives: a list of conditions, each with its number; the first that holds is given, and 0 where none does.
use Rattle.std.specs.Prelude.{◌≡◌, Bool, true, false, ◌↔◌, List, [], ◌∷◌, ◌++◌, ℕ, zero, suc}
use Rattle.table.specs.Numbers.{done}

-- where the condition holds the call is refused by the number
pub record Rule : Type 0 where
  pub condition : Bool
  pub number : ℕ

abbrev pub rule : Bool → ℕ → Rule
rule b n = record { condition = b; number = n }

-- n where the condition holds, and else what follows
abbrev pub or_else : Bool → ℕ → ℕ → ℕ
or_else true n rest = n
or_else false n rest = rest

abbrev pub first : List Rule → ℕ
first [] = done
first (r ∷ rs) = or_else r.condition r.number (first rs)

-- what the call does where it is done, and what is there otherwise
abbrev pub if_done : {A : Type 0} → ℕ → A → A → A
if_done zero new old = new
if_done (suc n) new old = old

-- none of the conditions holds
abbrev pub None : List Rule → Type 0
None [] = Unit {0}
None (r ∷ rs) = (r.condition ≡ false) × None rs

-- some rule with the number n holds, and none before it does
pub record First (n : ℕ) (rs : List Rule) : Type 0 where
  pub before : List Rule
  pub after : List Rule
  pub split : rs ≡ before ++ (rule true n ∷ after)
  pub none : None before

-- both together, what a call's number n says of its rules: it is refused exactly by the first that holds, and done exactly where none does
pub record Exact (n : ℕ) (rs : List Rule) : Type 0 where
  pub refused : (k : ℕ) → (n ≡ suc k) ↔ First (suc k) rs
  pub done : (n ≡ 0) ↔ None rs
