-- Laws of the bits of a number: each operation of the code bit by bit, rotation at any width, and a number from its bits.
use mathlib.Core.Path.{◌≡◌, refl, sym, ap, ◌∙◌, subst}
use Prim.Native.Nat.{ℕ, zero, suc, ◌+◌, ◌-◌, ◌*◌, ◌/◌, ◌%◌, ◌^◌, ◌≤◌, ◌<◌}
use native.Mathlib.Nat.{mod-lt, mod-eq_of_lt, div-one, add-mod_right, mul-mod_left, add-zero, add_comm}
use native.Mathlib.Omega.{arith}
use native.Mathlib.Numerals.{one-add}
use native.Mathlib.Decide.{dec_lt}
use lib.Pow.{shr-shr, shl-shr, high, split, shr_lt, shr_le, mod-pow-add, pow_pos}
use lib.Bits.{bit_xor, bit_and, bit_or, xor_shr, and_shr, and_mod, xor_add_and, or_shifted, or_lt, block_half, block_odd}
use Rattle.keccak.specs.Bits.{bit, value, rot}

pub bit_lt : (n z : ℕ) → bit n z < 2
unfolding bit
bit_lt n z = mod-lt _ (omega arith)

pub bit-zero : (n : ℕ) → bit n 0 ≡ n % 2
unfolding bit
bit-zero n = ap (λ (x : ℕ). x % 2) (div-one n)

pub bit-suc : (n z : ℕ) → bit n (suc z) ≡ bit (n / 2) z
unfolding bit
bit-suc n z = rw (← one-add z, ← shr-shr n 1 z)

-- bit z of n shifted right, and of the lowest j bits of n
pub bit_shr : (n j z : ℕ) → bit (n / 2 ^ j) z ≡ bit n (j + z)
unfolding bit
bit_shr n j z = rw shr-shr

-- ---- xor, and, not
pub bit-bit_xor : (a b z : ℕ) → bit (bit_xor a b) z ≡ (bit a z + bit b z) % 2
unfolding bit
bit-bit_xor a b z = rw xor_shr (omega (arith, xor_add_and (a / 2 ^ z) (b / 2 ^ z)))

and_small : (p q : ℕ) → p < 2 → q < 2 → bit_and p q ≡ p * q
and_small zero q h k = omega arith
and_small (suc zero) zero h k = refl
and_small (suc zero) (suc zero) h k = refl
and_small (suc zero) (suc (suc q)) h k = absurd (omega arith)
and_small (suc (suc p)) q h k = absurd (omega arith)

pub bit-bit_and : (a b z : ℕ) → bit (bit_and a b) z ≡ bit a z * bit b z
unfolding bit
bit-bit_and a b z = rw (and_shr, and_mod (a / 2 ^ z) (b / 2 ^ z) 1) (and_small _ _ (mod-lt _ (omega arith)) (mod-lt _ (omega arith)))

-- two numbers that add up to w ones
ones_bits : (w a b z : ℕ) → a + b + 1 ≡ 2 ^ w → z < w → bit a z + bit b z ≡ 1
ones_bits zero a b z e h = absurd (omega arith)
ones_bits (suc w) a b zero e h = rw (bit-zero a, bit-zero b) (omega arith)
ones_bits (suc w) a b (suc z) e h = rw (bit-suc a, bit-suc b) (ones_bits w (a / 2) (b / 2) z (omega arith) (omega arith))

pub bit_not : (w a z : ℕ) → a < 2 ^ w → z < w → bit ((2 ^ w - 1) - a) z ≡ (bit a z + 1) % 2
bit_not w a z h k = omega (arith, ones_bits w a ((2 ^ w - 1) - a) z (omega arith) k)

-- ---- a number is its bits
pub same_bits : (w a b : ℕ) → a < 2 ^ w → b < 2 ^ w → ((z : ℕ) → z < w → bit a z ≡ bit b z) → a ≡ b
same_bits zero a b ha hb e = omega arith
same_bits (suc w) a b ha hb e =
    omega (
      arith,
      rw (bit-zero a, bit-zero b) at (e 0 (omega arith)),
      same_bits w (a / 2) (b / 2) (omega arith) (omega arith) (λ z h. rw (bit-suc a, bit-suc b) at (e (suc z) (omega arith))),
    )

pub value_lt : (w : ℕ) (f : ℕ → ℕ) → ((z : ℕ) → z < w → f z < 2) → value w f < 2 ^ w
value_lt zero f h = omega arith
value_lt (suc w) f h = omega (arith, h 0 (omega arith), value_lt w (λ z. f (suc z)) (λ z k. h (suc z) (omega arith)))

pub value-bit : (w : ℕ) (f : ℕ → ℕ) → ((z : ℕ) → z < w → f z < 2) → (z : ℕ) → z < w → bit (value w f) z ≡ f z
value-bit zero f h z k = absurd (omega arith)
value-bit (suc w) f h zero k = bit-zero _ ∙ omega (arith, h 0 (omega arith))
value-bit (suc w) f h (suc z) k =
    let e : (f 0 + 2 * value w (λ i. f (suc i))) / 2 ≡ value w (λ i. f (suc i)) = omega (arith, h 0 (omega arith)) in
    bit-suc _ z ∙ ap (λ (n : ℕ). bit n z) e ∙ value-bit w (λ i. f (suc i)) (λ i m. h (suc i) (omega arith)) z (omega arith)

-- ---- a high part above k low bits
block_low : (k hi lo z : ℕ) → z < k → bit (hi * 2 ^ k + lo) z ≡ bit lo z
block_low zero hi lo z h = absurd (omega arith)
block_low (suc k) hi lo zero h = bit-zero _ ∙ block_odd hi k lo ∙ sym (bit-zero lo)
block_low (suc k) hi lo (suc z) h =
    bit-suc _ z ∙ ap (λ (x : ℕ). bit x z) (block_half hi k lo) ∙ block_low k hi (lo / 2) z (omega arith) ∙ sym (bit-suc lo z)

block_high : (k hi lo i : ℕ) → lo < 2 ^ k → bit (hi * 2 ^ k + lo) (k + i) ≡ bit hi i
block_high k hi lo i h = sym (bit_shr _ k i) ∙ ap (λ (x : ℕ). bit x i) (high hi k h)

pub bit_mod : (n j z : ℕ) → z < j → bit (n % 2 ^ j) z ≡ bit n z
bit_mod n j z h = sym (block_low j (n / 2 ^ j) (n % 2 ^ j) z h) ∙ ap (λ (x : ℕ). bit x z) (split n j)

-- ---- rotation left by k of a number of j + k bits: its j low bits go above its k high ones
rot-block : (j k n : ℕ) → n < 2 ^ (k + j) → bit_or (n * 2 ^ k % 2 ^ (j + k)) (n / 2 ^ j) ≡ (n % 2 ^ j) * 2 ^ k + n / 2 ^ j
rot-block j k n h = rw (mod-pow-add _ j k, shl-shr, mul-mod_left, add-zero) (or_shifted (n % 2 ^ j) k (n / 2 ^ j) (shr_lt k j h))

rot_low : (j k n z : ℕ) → z < k → bit ((n % 2 ^ j) * 2 ^ k + n / 2 ^ j) z ≡ bit n ((z + j) % (j + k))
rot_low j k n z h = block_low k (n % 2 ^ j) (n / 2 ^ j) z h ∙ bit_shr n j z ∙ ap (bit n) (add_comm j z ∙ sym (mod-eq_of_lt (omega arith)))

rot_high : (j k n i : ℕ) → n < 2 ^ (k + j) → i < j → bit ((n % 2 ^ j) * 2 ^ k + n / 2 ^ j) (k + i) ≡ bit n ((k + i + j) % (j + k))
rot_high j k n i h l =
    block_high k (n % 2 ^ j) (n / 2 ^ j) i (shr_lt k j h) ∙ bit_mod n j i l
    ∙ ap (bit n) (sym (mod-eq_of_lt (omega arith)) ∙ sym (add-mod_right i (j + k)) ∙ ap (λ (x : ℕ). x % (j + k)) (omega arith))

rot_cases : (j k n z : ℕ) → n < 2 ^ (k + j) → z < j + k → Dec (z < k) → bit ((n % 2 ^ j) * 2 ^ k + n / 2 ^ j) z ≡ bit n ((z + j) % (j + k))
rot_cases j k n z h l (yes p) = rot_low j k n z p
rot_cases j k n z h l (no p) =
    let e : z ≡ k + (z - k) = omega arith in
    rw e (rot_high j k n (z - k) h (omega arith))

pub bit-rot : (w k n z : ℕ) → n < 2 ^ w → k ≤ w → z < w → bit (rot w k n) z ≡ bit n ((z + (w - k)) % w)
bit-rot w zero n z h l m = ap (bit n) (sym (mod-eq_of_lt m) ∙ sym (add-mod_right z w) ∙ ap (λ (x : ℕ). (z + x) % w) (omega arith))
bit-rot w (suc k) n z h l m =
    let j : ℕ = w - suc k in
    let e : w ≡ j + suc k = omega arith in
    let h' : n < 2 ^ (suc k + j) = subst (λ (x : ℕ). n < 2 ^ x) (omega arith) h in
    subst (λ (x : ℕ). bit (bit_or (n * 2 ^ suc k % 2 ^ x) (n / 2 ^ j)) z ≡ bit n ((z + j) % x)) (sym e)
    (rw rot-block (rot_cases j (suc k) n z h' (omega arith) (dec_lt z (suc k))))

pub rot_lt : (w k n : ℕ) → n < 2 ^ w → rot w k n < 2 ^ w
rot_lt w zero n h = h
rot_lt w (suc k) n h = or_lt w _ _ (mod-lt _ (pow_pos w)) (omega (arith, shr_le n (w - suc k)))
