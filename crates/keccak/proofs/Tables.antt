-- The two tables are what the rules give: one computed equation for each.
use mathlib.Core.Path.{◌≡◌, refl, sym, ap, ◌∙◌}
use Prim.Native.Nat.{ℕ, zero, suc, ◌+◌, ◌-◌, ◌%◌, ◌^◌, ◌≤◌, ◌<◌}
use native.Mathlib.Nat.{mod-lt, zero-add, suc-add}
use native.Mathlib.Omega.{arith}
use lib.ListN.{get_or}
use lib.Pow.{pow_pos, pow_mono}
use borrow.Author.Tests.{ne_eqb}
use Rattle.keccak.specs.Keccak.{constant_bit, offset}
use Rattle.keccak.specs.Bits.{bit}
use Rattle.keccak.specs.Tables.{offsets, constants}
use Rattle.keccak.specs.Lanes.{lane, constant}
use Rattle.keccak.proofs.Bits.{bit_mod, same_bits, value_lt, value-bit}
use Rattle.keccak.proofs.Lanes.{from_same, lanes_same}

-- ---- rho's offsets are those of the matrix rule
pub offsets_right : (x y : ℕ) → x < 5 → y < 5 → lane offsets x y ≡ offset x y
offsets_right = lanes_same (lane offsets) offset refl

-- ---- iota's constants
pub constant_lt : (l r : ℕ) → constant l r < 2 ^ 2 ^ l
unfolding constant
constant_lt l r = value_lt (2 ^ l) (constant_bit l r) (λ z h. mod-lt _ (omega arith))

pub constant-bit : (l r z : ℕ) → z < 2 ^ l → bit (constant l r) z ≡ constant_bit l r z
unfolding constant
constant-bit l r z h = value-bit (2 ^ l) (constant_bit l r) (λ i k. mod-lt _ (omega arith)) z h

-- a lane twice as wide has the same constant in its low bits
bit_wider : (l m r z : ℕ) → l ≤ m → z < 2 ^ l → constant_bit (suc m) r z ≡ constant_bit m r z
bit_wider l m r z h k =
    let p : z < 2 ^ m = omega (arith, pow_mono h) in
    rw (ne_eqb z (2 ^ suc m - 1) (λ q. omega arith)) (rw zero-add)

bit_widest : (l k r z : ℕ) → z < 2 ^ l → constant_bit (k + l) r z ≡ constant_bit l r z
bit_widest l zero r z h = rw zero-add
bit_widest l (suc k) r z h = rw (suc-add k l) (bit_wider l (k + l) r z (omega arith) h ∙ bit_widest l k r z h)

pub constant_low : (l m r : ℕ) → l ≤ m → constant m r % 2 ^ 2 ^ l ≡ constant l r
constant_low l m r h =
    same_bits (2 ^ l) (constant m r % 2 ^ 2 ^ l) (constant l r) (mod-lt _ (pow_pos (2 ^ l))) (constant_lt l r)
    (λ z k.
    let e : m ≡ (m - l) + l = omega arith in
    bit_mod (constant m r) (2 ^ l) z k ∙ constant-bit m r z (omega (arith, pow_mono h))
    ∙ ap (λ (n : ℕ). constant_bit n r z) e ∙ bit_widest l (m - l) r z k ∙ sym (constant-bit l r z k))

-- the table has the constants of the register's rule, for every width
widest : (r : ℕ) → r < 24 → get_or constants r 0 ≡ constant 6 r
unfolding constant
widest = from_same 24 (λ r. get_or constants r 0) (constant 6) refl

pub constants_right : (l r : ℕ) → l ≤ 6 → r < 24 → get_or constants r 0 % 2 ^ 2 ^ l ≡ constant l r
constants_right l r h k = rw (widest r k) (constant_low l 6 r h)
