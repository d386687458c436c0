-- Each step on lanes is that step on the state which the lanes hold, at every width w.
use mathlib.Core.Path.{◌≡◌, refl, ap, ◌∙◌}
use mathlib.Core.Bool.{Bool, ◌&&◌}
use mathlib.Core.List.{List}
use Prim.Native.Nat.{ℕ, zero, suc, ◌+◌, ◌*◌, ◌%◌, ◌^◌, ◌<◌}
use native.Mathlib.Nat.{mod-lt}
use native.Mathlib.Omega.{arith}
use lib.ListN.{length-set}
use lib.Seq.{get_or-set_same, get_or-set_other}
use lib.Dec.{eqb, eqb-suc-zero}
use lib.Bits.{bit_xor, xor_lt, and_lt}
use lib.Pow.{ones_sub-lt}
use Rattle.keccak.specs.Keccak.{State, sum, back, when, offset, theta, rho, pi, chi, iota, constant_bit}
use Rattle.keccak.specs.Bits.{bit, rot}
use Rattle.keccak.specs.Tables.{offsets}
use Rattle.keccak.specs.Lanes.{lane, parity, theta_lane, rho_pi_lane, chi_lane, theta_l, rho_pi_l, chi_l, iota_l, constant}
use Rattle.keccak.proofs.Bits.{bit_lt, bit-bit_xor, bit-bit_and, bit_not, bit-rot, rot_lt}
use Rattle.keccak.proofs.Lanes.{Holds, holds_lanes}
use Rattle.keccak.proofs.Tables.{offsets_right, constant_lt, constant-bit}

-- rotation left by k takes bit z - k to z
bit_back : (w k n z : ℕ) → n < 2 ^ w → z < w → bit (rot w (k % w) n) z ≡ bit n (back w z k)
bit_back w k n z h m = bit-rot w (k % w) n z h (omega (arith, mod-lt k {m = w} (omega arith))) m

back_lt : (w z k : ℕ) → z < w → back w z k < w
back_lt w z k h = mod-lt _ (omega arith)

five : (n : ℕ) → n % 5 < 5
five n = mod-lt n (omega arith)

-- (q + 1) r, the sum taken modulo 2 or not
not_times : (p q r : ℕ) → q < 2 → (p + (q + 1) % 2 * r) % 2 ≡ (p + (q + 1) * r) % 2
not_times p zero r k = refl
not_times p (suc zero) r k = omega arith
not_times p (suc (suc q)) r k = absurd (omega arith)

module _ (w : ℕ) (s : List ℕ) (a : State) (h : Holds w s a) where
  parity_lt : (x : ℕ) → x < 5 → parity s x < 2 ^ w
  parity_lt x hx =
      let b : (y : ℕ) → y < 5 → lane s x y < 2 ^ w = λ y hy. h.small x y hx hy in
      xor_lt w _ _ (xor_lt w _ _ (xor_lt w _ _ (xor_lt w _ _ (b 0 (omega arith)) (b 1 (omega arith))) (b 2 (omega arith))) (b 3 (omega arith))) (b 4 (omega arith))

  parity-bit : (x z : ℕ) → x < 5 → z < w → bit (parity s x) z ≡ sum 5 (λ y. a x y z) % 2
  parity-bit x z hx hz =
      let g : (y : ℕ) → y < 5 → bit (lane s x y) z ≡ a x y z = λ y hy. h.agree x y z hx hy hz in
      rw (bit-bit_xor, bit-bit_xor, bit-bit_xor, bit-bit_xor, g 0 (omega arith), g 1 (omega arith), g 2 (omega arith), g 3 (omega arith), g 4 (omega arith)) (omega arith)

  pub theta_holds : Holds w (theta_l w s) (theta w a)
  unfolding theta
  theta_holds =
      holds_lanes w (theta_lane w s) (theta w a)
      (λ x y hx hy. xor_lt w _ _ (h.small x y hx hy) (xor_lt w _ _ (parity_lt _ (five (x + 4))) (rot_lt w (1 % w) _ (parity_lt _ (five (x + 1))))))
      (λ x y z hx hy hz.
      rw (
        bit-bit_xor,
        bit-bit_xor,
        bit_back w 1 _ z (parity_lt _ (five (x + 1))) hz,
        parity-bit _ z (five (x + 4)) hz,
        parity-bit _ (back w z 1) (five (x + 1)) (back_lt w z 1 hz),
        h.agree x y z hx hy hz,
      )
      (omega arith))

  pub rho-pi_holds : Holds w (rho_pi_l w s) (pi (rho w a))
  unfolding pi rho
  rho-pi_holds =
      holds_lanes w (rho_pi_lane w s) (pi (rho w a))
      (λ x y hx hy. rot_lt w (lane offsets ((x + 3 * y) % 5) x % w) _ (h.small _ x (five (x + 3 * y)) hx))
      (λ x y z hx hy hz.
      let b = five (x + 3 * y) in
      rw (offsets_right ((x + 3 * y) % 5) x b hx)
      (bit_back w (offset ((x + 3 * y) % 5) x) _ z (h.small _ x b hx) hz ∙ h.agree _ x _ b hx (back_lt w z _ hz)))

  pub chi_holds : Holds w (chi_l w s) (chi a)
  unfolding chi
  chi_holds =
      holds_lanes w (chi_lane w s) (chi a)
      (λ x y hx hy. xor_lt w _ _ (h.small x y hx hy) (and_lt w _ _ (ones_sub-lt w _) (h.small _ y (five (x + 2)) hy)))
      (λ x y z hx hy hz.
      let q : bit (lane s ((x + 1) % 5) y) z < 2 = bit_lt _ z in
      rw (
        bit-bit_xor,
        bit-bit_and,
        bit_not w _ z (h.small _ y (five (x + 1)) hy) hz,
        not_times _ _ (bit (lane s ((x + 2) % 5) y) z) q,
        h.agree x y z hx hy hz,
        h.agree _ y z (five (x + 1)) hy hz,
        h.agree _ y z (five (x + 2)) hy hz,
      )
      refl)

module _ (l r : ℕ) (s : List ℕ) (a : State) (h : Holds (2 ^ l) s a) where
  other : (x y : ℕ) → (5 * y + x ≡ 0 → ⊥) → lane (iota_l (constant l r) s) x y ≡ lane s x y
  other x y n = get_or-set_other s 0 (5 * y + x) _ 0 n

  first : lane (iota_l (constant l r) s) 0 0 ≡ bit_xor (lane s 0 0) (constant l r)
  first = get_or-set_same s 0 _ 0 (omega (arith, h.long))

  same : (x y z v : ℕ) → x < 5 → y < 5 → z < 2 ^ l → (5 * y + x ≡ 0 → ⊥) → v ≡ 0 → bit (lane (iota_l (constant l r) s) x y) z ≡ (a x y z + v) % 2
  same x y z v hx hy hz n e = rw (other x y n) (omega (arith, bit_lt (lane s x y) z, h.agree x y z hx hy hz))

  iota_small : (x y : ℕ) → x < 5 → y < 5 → lane (iota_l (constant l r) s) x y < 2 ^ 2 ^ l
  iota_small zero zero hx hy = rw first (xor_lt (2 ^ l) _ _ (h.small 0 0 hx hy) (constant_lt l r))
  iota_small zero (suc y) hx hy = rw (other 0 (suc y) (λ e. omega arith)) (h.small 0 (suc y) hx hy)
  iota_small (suc x) y hx hy = rw (other (suc x) y (λ e. omega arith)) (h.small (suc x) y hx hy)

  iota_agree : (x y z : ℕ) → x < 5 → y < 5 → z < 2 ^ l → bit (lane (iota_l (constant l r) s) x y) z ≡ iota l r a x y z
  unfolding iota
  iota_agree zero zero z hx hy hz = rw (first, bit-bit_xor, constant-bit l r z hz, h.agree 0 0 z hx hy hz) refl
  iota_agree zero (suc y) z hx hy hz =
      same 0 (suc y) z _ hx hy hz (λ e. omega arith) (ap (λ (b : Bool). when (eqb 0 0 && b) (constant_bit l r z)) (eqb-suc-zero y))
  iota_agree (suc x) y z hx hy hz =
      same (suc x) y z _ hx hy hz (λ e. omega arith) (ap (λ (b : Bool). when (b && eqb y 0) (constant_bit l r z)) (eqb-suc-zero x))

  pub iota_holds : Holds (2 ^ l) (iota_l (constant l r) s) (iota l r a)
  iota_holds = record { long = length-set s 0 _ ∙ h.long; small = iota_small; agree = iota_agree }
