-- The counts of bytes that follow from an instance's parameters: 01's table and the rule behind it; and that the five instances are sound.
use Rattle.motorist.specs.Counts.{Counts, Largest}
use Prim.Native.Nat.{ℕ, ◌-◌, ◌*◌, ◌/◌, ◌≤◌, ◌<◌, max}
use mathlib.Core.Path.{◌≡◌, refl, ◌∙◌}
use native.Mathlib.Omega.{arith}
use native.Mathlib.Nat.{div-mul-le_self, le-div_iff_mul-le, mul-le-mul_left, mul_comm, mul_assoc, mul-div_cancel_left}
use Rattle.motorist.specs.Instance.{Instance, Sound, state_length, text_rate, full_rate, chain_length, pack_length, lake, river, sea, ocean, lunar}

-- ---- 01's table
pub lake_counts : Counts lake 1600 64 168 192 40 32 16 200
unfolding state_length text_rate full_rate chain_length pack_length
lake_counts = omega arith

pub river_counts : Counts river 800 32 68 96 36 32 16 100
unfolding state_length text_rate full_rate chain_length pack_length
river_counts = omega arith

-- ---- the rule
swap : (m w : ℕ) → m * (8 * w) ≡ 8 * (w * m)
swap m w = mul_comm m (8 * w) ∙ mul_assoc 8 w m

largest_multiple : (b w k : ℕ) → 0 < w → k ≤ b → Largest b w k ((b - k) / (8 * w) * (8 * w) / 8)
largest_multiple b w k hw hk =
    let q : ℕ = (b - k) / (8 * w) in
    let n : q * (8 * w) / 8 ≡ w * q = rw (swap q w) (mul-div_cancel_left (w * q) (omega arith)) in
    let l : q * (8 * w) ≤ b - k = div-mul-le_self (b - k) (8 * w) in
    rw n
    (record {
      lanes = q;
      multiple = refl;
      leaves = omega (arith, swap q w);
      largest = λ m h. mul-le-mul_left w ((le-div_iff_mul-le (omega arith)).1 (rw (swap m w) (omega arith)));
    })

-- Rs is the largest multiple of W that leaves at least c bits, and at least 32; Ra the largest that leaves 32 bits. W is given as w bytes
pub text_largest : (i : Instance) (w : ℕ) → i.lane ≡ 8 * w → 0 < w → max i.capacity 32 ≤ i.width → Largest i.width w (max i.capacity 32) (text_rate i)
unfolding text_rate
text_largest i w e hw hk = rw e (largest_multiple i.width w (max i.capacity 32) hw hk)

pub full_largest : (i : Instance) (w : ℕ) → i.lane ≡ 8 * w → 0 < w → 32 ≤ i.width → Largest i.width w 32 (full_rate i)
unfolding full_rate
full_largest i w e hw hk = rw e (largest_multiple i.width w 32 hw hk)

-- ---- soundness
pub lake_sound : Sound lake
unfolding state_length text_rate full_rate chain_length pack_length
lake_sound = omega arith

pub river_sound : Sound river
unfolding state_length text_rate full_rate chain_length pack_length
river_sound = omega arith

pub sea_sound : Sound sea
unfolding state_length text_rate full_rate chain_length pack_length
sea_sound = omega arith

pub ocean_sound : Sound ocean
unfolding state_length text_rate full_rate chain_length pack_length
ocean_sound = omega arith

pub lunar_sound : Sound lunar
unfolding state_length text_rate full_rate chain_length pack_length
lunar_sound = omega arith
