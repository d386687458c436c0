-- The loops over lanes in the shapes that the code leaves: none done, one lane more, the bytes behind the whole lanes, all done.
use mathlib.Core.Path.{◌≡◌, refl, sym, ap, ◌∙◌}
use mathlib.Core.List.{List, ◌∷◌, ◌++◌, append-nil}
use Prim.Native.Nat.{ℕ, zero, suc, ◌+◌, ◌-◌, ◌*◌, ◌≤◌, ◌<◌}
use native.Mathlib.Nat.{mul-zero, mul-one, mul-add, mul-le-mul_left, le_of_lt}
use native.Mathlib.Omega.{arith}
use lib.Bits.{bit_xor}
use lib.ListN.{length, get_or, set, take, drop, replicate, length-append, length-replicate, length-drop, length-take, drop_of_length-le}
use lib.Seq.{take_all, length-take-le}
use Rattle.endian.specs.Little.{from_bytes, to_bytes}
use Rattle.keccak.specs.State.{bytes}
use Rattle.endian.specs.Small.{Small}
use Rattle.motorist.specs.Piston.{Bytes, xors, mask}
use Rattle.motorist.proofs.Xors.{length-mask}
use Rattle.slices.proofs.Parts.{grow}
use Rattle.piston.specs.Placed.{placed}
use Rattle.piston.proofs.Xors.{xors-zeros, mask-zeros}
use Rattle.piston.proofs.Lane.{xor_in_more, stream_more}

-- the size of the part from a to a + k
part_size : (a k : ℕ) → a + k - a ≡ k
part_size a k = omega arith

next_lane : (w j : ℕ) → w * (j + 1) ≡ w * j + w
next_lane w j = mul-add w j 1 ∙ rw mul-one refl

-- a lane's worth of a run is as much as a lane has, and what is behind the whole lanes is no more
pub part_fits : (w a : ℕ) (v : Bytes) → a + w ≤ length v → length (take (a + w - a) (drop a v)) ≡ w
part_fits w a v h = omega (arith, h, length-take (a + w - a) (drop a v), length-drop a v)

pub rest_fits : (w k a : ℕ) (v : Bytes) → k - a < w → length (take (k - a) (drop a v)) ≤ w
rest_fits w k a v h = omega (arith, h, length-take (k - a) (drop a v))

-- parts of one size of two runs of one length
pub same_part : (a k : ℕ) (v d : Bytes) → length d ≡ length v → length (take k (drop a d)) ≡ length (take k (drop a v))
same_part a k v d e = omega (arith, e, length-take k (drop a d), length-take k (drop a v), length-drop a d, length-drop a v)

module _ (w q : ℕ) (v : Bytes) where
  pub xor_in_none : (b : Bytes) → b ≡ xors b (placed (w * q) (take (w * 0) v))
  xor_in_none b = rw (mul-zero, append-nil) (sym (xors-zeros b (w * q)))

  module _ (small : Small v) (l : List ℕ) (j x : ℕ) (inside : q + j < length l) where
    -- a whole lane more
    pub xor_in_turn : (b₀ : Bytes) → w * j + w ≤ length v → bytes w l ≡ xors b₀ (placed (w * q) (take (w * j) v))
        → x ≡ from_bytes (take (w * j + w - w * j) (drop (w * j) v))
        → bytes w (set l (q + j) (bit_xor (get_or l (q + j) 0) x)) ≡ xors b₀ (placed (w * q) (take (w * (j + 1)) v))
    xor_in_turn b₀ room e ex = rw (ex, part_size (w * j) w, next_lane w j) (xor_in_more w q v small b₀ l j w inside (omega arith) room e)

    -- what is behind the whole lanes
    pub xor_in_rest : (b₀ : Bytes) → w * j ≤ length v → length v - w * j ≤ w → bytes w l ≡ xors b₀ (placed (w * q) (take (w * j) v))
        → x ≡ from_bytes (take (length v - w * j) (drop (w * j) v))
        → bytes w (set l (q + j) (bit_xor (get_or l (q + j) 0) x)) ≡ xors b₀ (placed (w * q) v)
    xor_in_rest b₀ room few e ex =
        let k : w * j + (length v - w * j) ≡ length v = omega arith in
        rw (ex, xor_in_more w q v small b₀ l j (length v - w * j) inside few (omega arith) e, k, take_all (length v) v (omega arith)) refl

    -- ys came back in the place of a lane's worth of d: as long as before, and a lane more is done
    pub stream_turn : (d₀ d ys : Bytes) → length d₀ ≡ length v → w * j + w ≤ length v → w * length l ≡ length (bytes w l)
        → d ≡ mask (bytes w l) (w * q) (take (w * j) v) ++ drop (w * j) d₀
        → x ≡ from_bytes (take (w * j + w - w * j) (drop (w * j) v)) → ys ≡ to_bytes (length (take (w * j + w - w * j) (drop (w * j) v))) (bit_xor x (get_or l (q + j) 0))
        → (length (take (w * j) d ++ (ys ++ drop (w * j + w - w * j) (drop (w * j) d))) ≡ length d₀)
        × (take (w * j) d ++ (ys ++ drop (w * j + w - w * j) (drop (w * j) d)) ≡ mask (bytes w l) (w * q) (take (w * (j + 1)) v) ++ drop (w * (j + 1)) d₀)
    stream_turn d₀ d ys hd room all e ex ey =
        let m : ℕ → Bytes = λ n. mask (bytes w l) (w * q) (take (w * n) v) in
        let lm : length (m j) ≡ w * j = length-mask (bytes w l) (w * q) (take (w * j) v) ∙ length-take-le (w * j) v (omega arith) in
        let here : w * (q + j) ≤ length (bytes w l) = rw (← all) (mul-le-mul_left w (le_of_lt inside)) in
        let lp : length (take w (drop (w * j) v)) ≡ w = length-take-le w (drop (w * j) v) (rw length-drop (omega arith)) in
        let y : ys ≡ to_bytes w (bit_xor (from_bytes (take w (drop (w * j) v))) (get_or l (q + j) 0)) = rw lp at (rw (ex, part_size (w * j) w) at ey) in
        let done : take (w * j) d ++ (ys ++ drop (w * j + w - w * j) (drop (w * j) d)) ≡ m (j + 1) ++ drop (w * (j + 1)) d₀
        = rw (e, part_size (w * j) w, grow (m j) d₀ ys (w * j) w lm, y, stream_more w q v small l j w inside (omega arith) room here, next_lane w j) refl in
        let long : length (m (j + 1)) ≡ w * j + w = length-mask (bytes w l) (w * q) (take (w * (j + 1)) v) ∙ rw (next_lane w j) (length-take-le (w * j + w) v room) in
        let left : length (drop (w * (j + 1)) d₀) ≡ length d₀ - (w * j + w) = rw (length-drop, next_lane w j) refl in
        (ap length done ∙ length-append (m (j + 1)) (drop (w * (j + 1)) d₀) ∙ omega (arith, long, left), done)

    -- what is behind the whole lanes
    pub stream_rest : (d₀ d ys : Bytes) → length d₀ ≡ length v → w * j ≤ length v → length v - w * j ≤ w → w * length l ≡ length (bytes w l)
        → d ≡ mask (bytes w l) (w * q) (take (w * j) v) ++ drop (w * j) d₀
        → x ≡ from_bytes (take (length v - w * j) (drop (w * j) v)) → ys ≡ to_bytes (length (take (length v - w * j) (drop (w * j) v))) (bit_xor x (get_or l (q + j) 0))
        → take (w * j) d ++ (ys ++ drop (length d - w * j) (drop (w * j) d)) ≡ mask (bytes w l) (w * q) v
    stream_rest d₀ d ys hd room few all e ex ey =
        let m : Bytes = mask (bytes w l) (w * q) (take (w * j) v) in
        let lm : length m ≡ w * j = length-mask (bytes w l) (w * q) (take (w * j) v) ∙ length-take-le (w * j) v room in
        let ld : length d ≡ length v = ap length e ∙ simp (length-append, lm, length-drop) (omega arith) in
        let lr : length (take (length v - w * j) (drop (w * j) v)) ≡ length v - w * j = length-take-le (length v - w * j) (drop (w * j) v) (rw length-drop (omega arith)) in
        let here : w * (q + j) ≤ length (bytes w l) = rw (← all) (mul-le-mul_left w (le_of_lt inside)) in
        let k : w * j + (length v - w * j) ≡ length v = omega arith in
        let y : ys ≡ to_bytes (length v - w * j) (bit_xor (from_bytes (take (length v - w * j) (drop (w * j) v))) (get_or l (q + j) 0)) = rw (ex, lr) at ey in
        rw (ld, e, grow m d₀ ys (w * j) (length v - w * j) lm, y, stream_more w q v small l j (length v - w * j) inside few (omega arith) here, k, take_all (length v) v (omega arith), drop_of_length-le d₀ {i = length v} (omega arith), append-nil)
        refl

-- ---- the first bytes out: zeros under the key stream
abbrev zeros : ℕ → Bytes
zeros n = replicate n 0

zeros_part : (n k : ℕ) → n ≤ k → take n (zeros k) ≡ zeros n
zeros_part zero k h = refl
zeros_part (suc n) zero h = absurd (omega arith)
zeros_part (suc n) (suc k) h = ap (λ (z : Bytes). 0 ∷ z) (zeros_part n k (omega arith))

pub zeros-length : (n k : ℕ) → n ≤ k → length (take n (zeros k)) ≡ n
zeros-length n k h = length-take-le n (zeros k) (rw length-replicate h)

pub squeezed : (s d : Bytes) (n k : ℕ) → n ≤ k → n ≤ length s → d ≡ mask s 0 (take n (zeros k)) → d ≡ take n s
squeezed s d n k h m e = e ∙ rw (zeros_part n k h) (mask-zeros s n m)
