-- The definitions of Keccak.antt in the words of document 003: what its rules ask of pi, rho, the round constants and the register is what the definitions give.
use mathlib.Core.Path.{◌≡◌, refl, sym, ap}
use mathlib.Core.Bool.{true}
use mathlib.Core.List.{List, [], ◌∷◌}
use Prim.Native.Nat.{ℕ, zero, suc, ◌+◌, ◌-◌, ◌*◌, ◌/◌, ◌%◌, ◌^◌, ◌≤◌, ◌<◌}
use native.Mathlib.Nat.{mod-lt, suc-add, zero-add, add-zero}
use native.Mathlib.Omega.{arith}
use native.Mathlib.Decide.{ℕ_discrete, dec_lt}
use lib.Pow.{pow-lt, pow_pos}
use borrow.Author.Tests.{eq-eqb, ne_eqb, lt-ltb}
use lib.Dec.{eqb, ltb}
use Rattle.keccak.specs.Keccak.{State, Place, sum, when, back, times, place, offset, rho, pi, power, rc, constant_bit}
use Rattle.keccak.specs.Lanes.{lane}
use Rattle.keccak.proofs.Lanes.{from_same, lanes_same}

-- ---- π: a[x, y] ← a[x', y'] with (x; y) = (0 1; 2 3) (x'; y')
pub pi_moves : (a : State) (p : Place) (z : ℕ) → p.x < 5 → p.y < 5 → pi a (times p).x (times p).y z ≡ a p.x p.y z
unfolding pi
pi_moves a p z hx hy =
    ap (λ (u : ℕ). a u p.y z) (lanes_same (λ x y. (y + 3 * ((2 * x + 3 * y) % 5)) % 5) (λ x y. x) refl p.x p.y hx hy)

-- ---- ρ: the offset is (t + 1)(t + 2) / 2 for t below 24 and (0 1; 2 3)^t (1; 0) = (x; y), or 0, as t = -1 would give, for x = y = 0
pub rho_moves : (w : ℕ) (a : State) (t z : ℕ) → t < 24
    → rho w a (place t).x (place t).y z ≡ a (place t).x (place t).y (back w z ((t + 1) * (t + 2) / 2))
unfolding rho
rho_moves w a t z h =
    ap (λ (k : ℕ). a (place t).x (place t).y (back w z k))
    (from_same 24 (λ t. offset (place t).x (place t).y) (λ t. (t + 1) * (t + 2) / 2) refl t h)

pub rho_origin : (w : ℕ) (a : State) (z : ℕ) → rho w a 0 0 z ≡ a 0 0 (back w z 0)
unfolding rho
rho_origin w a z = refl

-- and every place but (0; 0) is that of some t
times_of : List ℕ
times_of = 0 ∷ 0 ∷ 18 ∷ 6 ∷ 12 ∷ 7 ∷ 23 ∷ 2 ∷ 9 ∷ 22 ∷ 1 ∷ 3 ∷ 17 ∷ 16 ∷ 20 ∷ 13 ∷ 8 ∷ 4 ∷ 5 ∷ 15 ∷ 19 ∷ 10 ∷ 21 ∷ 14 ∷ 11 ∷ []

pub place_some : (x y : ℕ) → x < 5 → y < 5 → (x + y ≡ 0 → ⊥) → (t : ℕ) × (t < 24) × ((place t).x ≡ x) × ((place t).y ≡ y)
unfolding times_of
place_some x y hx hy n =
    let t : ℕ → ℕ → ℕ = lane times_of in
    let b : ltb 0 (x + y) ≡ true = lt-ltb 0 (x + y) (omega (arith, n)) in
    let f : t x y ≡ t x y % 24 = lanes_same t (λ x y. t x y % 24) refl x y hx hy in
    let g = lanes_same (λ x y. when (ltb 0 (x + y)) (place (t x y)).x) (λ x y. x) refl x y hx hy in
    let h = lanes_same (λ x y. when (ltb 0 (x + y)) (place (t x y)).y) (λ x y. y) refl x y hx hy in
    (t x y, rw f (mod-lt _ (omega arith)), rw b at g, rw b at h)

-- ---- RC[r][0, 0, 2^j - 1] = rc[j + 7 r] for 0 ≤ j ≤ l, and every other bit is zero
sum_none : (n : ℕ) (f : ℕ → ℕ) → ((i : ℕ) → i < n → f i ≡ 0) → sum n f ≡ 0
sum_none zero f h = refl
sum_none (suc n) f h = rw (h n (omega arith), sum_none n f (λ i k. h i (omega arith)))

sum_one : (n : ℕ) (f : ℕ → ℕ) (j : ℕ) → j < n → ((i : ℕ) → i < n → (i ≡ j → ⊥) → f i ≡ 0) → sum n f ≡ f j
sum_one zero f j k h = absurd (omega arith)
sum_one (suc n) f j k h =
    elim (ℕ_discrete n j) [
      | yes e ↦ rw (sum_none n f (λ i m. h i (omega arith) (λ q. omega arith)), add-zero, e)
      | no e ↦ rw (h n (omega arith) e, zero-add) (sum_one n f j (omega (arith, e)) (λ i m. h i (omega arith)))
    ]

pow_same : (i j : ℕ) → 2 ^ i - 1 ≡ 2 ^ j - 1 → i ≡ j
pow_same i j e = by (dec_lt i j) (dec_lt j i)
  where
    by : Dec (i < j) → Dec (j < i) → i ≡ j
    by (yes h) d = absurd (omega (arith, pow-lt h, pow_pos i))
    by (no h) (yes k) = absurd (omega (arith, pow-lt k, pow_pos j))
    by (no h) (no k) = omega arith

pub constant_at : (l r j : ℕ) → j ≤ l → constant_bit l r (2 ^ j - 1) ≡ rc (j + 7 * r)
constant_at l r j h =
    let f : ℕ → ℕ = λ i. when (eqb (2 ^ j - 1) (2 ^ i - 1)) (rc (i + 7 * r)) in
    let e : sum (suc l) f ≡ f j = sum_one (suc l) f j (omega arith) (λ i k n. rw (ne_eqb (2 ^ j - 1) (2 ^ i - 1) (λ q. n (sym (pow_same j i q))))) in
    rw (e, eq-eqb (2 ^ j - 1) (2 ^ j - 1) refl) (omega arith)

pub constant_else : (l r z : ℕ) → ((j : ℕ) → j ≤ l → z ≡ 2 ^ j - 1 → ⊥) → constant_bit l r z ≡ 0
constant_else l r z h =
    let f : ℕ → ℕ = λ j. when (eqb z (2 ^ j - 1)) (rc (j + 7 * r)) in
    let e : sum (suc l) f ≡ 0 = sum_none (suc l) f (λ j k. rw (ne_eqb z (2 ^ j - 1) (h j (omega arith)))) in
    rw e

-- ---- the register's period divides 255
pub power_period : (t : ℕ) → power (t + 255) ≡ power t
power_period zero = refl
power_period (suc t) = rw (suc-add t 255, power_period t)
