-- Where a run of bytes lies in lanes of w bytes: it begins with lane q and has n whole ones; each of these, and what is behind them, is a lane of the 25.
use mathlib.Core.Path.{◌≡◌}
use Prim.Native.Nat.{ℕ, ◌+◌, ◌-◌, ◌*◌, ◌/◌, ◌%◌, ◌≤◌, ◌<◌}
use native.Mathlib.Nat.{div-add-mod, mod-lt, mul-add, mul-one, mul-le-mul_left, lt_of_mul-lt-mul_left}
use native.Mathlib.Omega.{arith}

module _ (w p k : ℕ) (some : 0 < w) (lane : p % w ≡ 0) where
  -- the place of its first byte
  pub first_lane : w * (p / w) ≡ p
  first_lane = omega (arith, div-add-mod p w)

  whole : w * (k / w) ≤ k
  whole = omega (arith, div-add-mod k w)

  pub some_left : k - w * (k / w) < w
  some_left = omega (arith, div-add-mod k w, mod-lt k some)

  module _ (fits : p + k ≤ w * 25) where
    inside : (j : ℕ) → w * j < k → p / w + j < 25
    inside j h = lt_of_mul-lt-mul_left w (omega (arith, mul-add w (p / w) j, first_lane))

    module _ (j : ℕ) (h : j < k / w) where
      pub next_whole : w * j + w ≤ k
      next_whole = omega (arith, whole, mul-le-mul_left w (less h), mul-add w j 1, mul-one w)
        where
          less : {m n : ℕ} → m < n → m + 1 ≤ n
          less g = omega arith

      pub in_lanes : p / w + j < 25
      in_lanes = inside j (omega (arith, next_whole))

    pub last_lane : w * (k / w) < k → p / w + k / w < 25
    last_lane = inside (k / w)
