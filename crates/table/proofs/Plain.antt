-- A call's number in plain words: what it demands, as propositions in the order in which they are asked, and the number that is
-- answered where one is not met. The rules of specs/Refusals.antt test such demands.
use mathlib.Core.Path.{◌≡◌, refl}
use mathlib.Core.Bool.{Bool, true, false, ◌&&◌, not}
use mathlib.Core.List.{List, [], ◌∷◌}
use mathlib.Core.Logic.{◌⊎◌, inl, inr}
use Prim.Native.Nat.{ℕ, ◌≤◌}
use native.Mathlib.Omega.{arith}
use borrow.Author.Tests.{ltb-true, ltb-false, leb-true, leb-false, eqb-true, eqb-false, not-true, not-false}
use lib.Dec.{ltb, leb, eqb}
use Rattle.table.specs.Refusals.{Rule, or_else, first}

pub record Demand : Type 1 where
  pub met : Type 0
  pub number : ℕ

abbrev pub demand : Type 0 → ℕ → Demand
demand p n = record { met = p; number = n }

-- n is the number of the first demand that is not met, and 0 where all are
abbrev pub Says : ℕ → List Demand → Type 0
Says n [] = n ≡ 0
Says n (d ∷ ds) = (d.met × Says n ds) ⊎ ((d.met → ⊥) × (n ≡ d.number))

-- the test b tells that p does not hold
pub record Tells (b : Bool) (p : Type 0) : Type 0 where
  pub holds : b ≡ false → p
  pub fails : b ≡ true → p → ⊥

-- each rule tells of the demand at its place
abbrev pub Tests : List Rule → List Demand → Type 0
Tests [] [] = Unit {0}
Tests [] (d ∷ ds) = ⊥
Tests (r ∷ rs) [] = ⊥
Tests (r ∷ rs) (d ∷ ds) = Tells r.condition d.met × (r.number ≡ d.number) × Tests rs ds

pub says : (rs : List Rule) (ds : List Demand) → Tests rs ds → Says (first rs) ds
says [] [] t = refl
says [] (d ∷ ds) t = absurd t
says (r ∷ rs) [] t = absurd t
says (r ∷ rs) (d ∷ ds) t = by r.condition t.0 (says rs ds t.2)
  where
    by : (b : Bool) → Tells b d.met → Says (first rs) ds
        → (d.met × Says (or_else b r.number (first rs)) ds) ⊎ ((d.met → ⊥) × (or_else b r.number (first rs) ≡ d.number))
    by true k s = inr (k.fails refl, t.1)
    by false k s = inl (k.holds refl, s)

-- ---- the usual tests
pub tells_equal : (m n : ℕ) → Tells (not (eqb m n)) (m ≡ n)
tells_equal m n = record { holds = λ e. eqb-true m n (not-false (eqb m n) e); fails = λ e. eqb-false m n (not-true (eqb m n) e) }

pub tells_other : (m n : ℕ) → Tells (eqb m n) (m ≡ n → ⊥)
tells_other m n = record { holds = eqb-false m n; fails = λ e k. k (eqb-true m n e) }

pub tells_most : (most n : ℕ) → Tells (ltb most n) (n ≤ most)
tells_most most n = record { holds = ltb-false most n; fails = λ e h. omega (arith, ltb-true most n e) }

pub tells_le : (m n : ℕ) → Tells (not (leb m n)) (m ≤ n)
tells_le m n = record { holds = λ e. leb-true m n (not-false (leb m n) e); fails = λ e h. omega (arith, leb-false m n (not-true (leb m n) e)) }

pub tells_both : (a b : Bool) (p q : Type 0) → Tells (not a) p → Tells (not b) q → Tells (not (a && b)) (p × q)
tells_both true true p q s t = record { holds = λ e. (s.holds refl, t.holds refl); fails = λ e h. t.fails e h.1 }
tells_both true false p q s t = record { holds = λ e. absurd (let z : ◌≡◌ {A = ℕ} 0 1 = cc in omega arith); fails = λ e h. t.fails refl h.1 }
tells_both false b p q s t = record { holds = λ e. absurd (let z : ◌≡◌ {A = ℕ} 0 1 = cc in omega arith); fails = λ e h. s.fails refl h.0 }
