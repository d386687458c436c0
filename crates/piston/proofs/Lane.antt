-- One lane among the bytes of all lanes, at every width of w bytes a lane: bytes xored into it, and key stream taken from it.
-- The bytes may be fewer than the lane has, so one law serves whole lanes and the end of a fragment.
use mathlib.Core.Path.{◌≡◌, refl, sym, ap, ◌∙◌}
use mathlib.Core.List.{List, [], ◌∷◌, ◌++◌, append_assoc}
use Prim.Native.Nat.{ℕ, zero, suc, ◌+◌, ◌-◌, ◌*◌, ◌/◌, ◌%◌, ◌^◌, ◌≤◌, ◌<◌}
use native.Mathlib.Nat.{zero-add, suc-add, mul-zero, mul-suc, mul-add, zero-div, zero-mod}
use native.Mathlib.Omega.{arith}
use lib.Bits.{bit_xor, xor_mod, xor_shr}
use lib.ListN.{length, get_or, set, take, drop, replicate, length-append, length-replicate, length-drop}
use lib.Seq.{drop-drop, drop_at, take-add, length-take-le}
use Rattle.endian.specs.Little.{from_bytes, to_bytes}
use Rattle.endian.proofs.Laws.{to_bytes-length}
use Rattle.keccak.specs.State.{bytes}
use Rattle.endian.specs.Small.{Small}
use Rattle.endian.proofs.Small.{small_part}
use Rattle.motorist.specs.Piston.{Bytes, xors, mask}
use Rattle.piston.specs.Placed.{placed}
use Rattle.piston.proofs.Xors.{xors_end, xors_front, xors_skip, xors_behind, mask_append}

-- ---- one lane
to_bytes_xor : (k a b : ℕ) → to_bytes k (bit_xor a b) ≡ xors (to_bytes k a) (to_bytes k b)
unfolding to_bytes
to_bytes_xor zero a b = refl
to_bytes_xor (suc k) a b = rw (xor_mod a b 8, xor_shr a b 8) (ap (λ (l : Bytes). bit_xor (a % 2 ^ 8) (b % 2 ^ 8) ∷ l) (to_bytes_xor k (a / 2 ^ 8) (b / 2 ^ 8)))

zero-bytes : (w : ℕ) → to_bytes w 0 ≡ replicate w 0
unfolding to_bytes
zero-bytes zero = refl
zero-bytes (suc w) = rw (zero-mod (2 ^ 8), zero-div (2 ^ 8)) (ap (λ (l : Bytes). 0 ∷ l) (zero-bytes w))

-- the bytes of the number of fewer bytes
padded : (w : ℕ) (v : Bytes) → length v ≤ w → Small v → to_bytes w (from_bytes v) ≡ v ++ replicate (w - length v) 0
unfolding from_bytes to_bytes
padded w [] h s = let e : w - 0 ≡ w = omega arith in rw e (zero-bytes w)
padded zero (x ∷ v) h s = absurd (omega arith)
padded (suc w) (x ∷ v) h s =
    let b : x < 2 ^ 8 = s 0 in
    let lo : (x + 2 ^ 8 * from_bytes v) % 2 ^ 8 ≡ x = omega arith in
    let hi : (x + 2 ^ 8 * from_bytes v) / 2 ^ 8 ≡ from_bytes v = omega arith in
    let e : suc w - suc (length v) ≡ w - length v = omega arith in
    rw (lo, hi, padded w v (omega arith) (λ i. s (suc i)), e) refl

keyed : (w : ℕ) (v : Bytes) (n : ℕ) (rest : Bytes) → length v ≤ w → Small v → to_bytes (length v) (bit_xor (from_bytes v) n) ≡ xors v (to_bytes w n ++ rest)
unfolding from_bytes to_bytes
keyed w [] n rest h s = refl
keyed zero (x ∷ v) n rest h s = absurd (omega arith)
keyed (suc w) (x ∷ v) n rest h s =
    let b : x < 2 ^ 8 = s 0 in
    let f : ℕ = from_bytes v in
    let lo : (x + 2 ^ 8 * f) % 2 ^ 8 ≡ x = omega arith in
    let hi : (x + 2 ^ 8 * f) / 2 ^ 8 ≡ f = omega arith in
    rw (xor_mod (x + 2 ^ 8 * f) n 8, xor_shr (x + 2 ^ 8 * f) n 8, lo, hi) (ap (λ (l : Bytes). bit_xor x (n % 2 ^ 8) ∷ l) (keyed w v (n / 2 ^ 8) rest (omega arith) (λ i. s (suc i))))

-- ---- among all lanes
module _ (w : ℕ) where
  step-lane : (q : ℕ) → w * suc q ≡ w + w * q
  step-lane q = mul-suc w q ∙ omega arith

  placed_add : (a b : ℕ) (v : Bytes) → placed (a + b) v ≡ placed a (placed b v)
  placed_add zero b v = rw zero-add refl
  placed_add (suc a) b v = rw suc-add (ap (λ (l : Bytes). 0 ∷ l) (placed_add a b v))

  -- bytes xored into lane q are xored into the state's bytes from byte w q on
  pub lane_in : (l : List ℕ) (q : ℕ) (v : Bytes) → q < length l → length v ≤ w → Small v
      → bytes w (set l q (bit_xor (get_or l q 0) (from_bytes v))) ≡ xors (bytes w l) (placed (w * q) v)
  unfolding bytes
  lane_in [] q v h k s = absurd (omega arith)
  lane_in (n ∷ l) zero v h k s =
      let e : length (to_bytes w n) ≡ w = to_bytes-length w n in
      rw (mul-zero, to_bytes_xor w n (from_bytes v), padded w v k s, xors_end (to_bytes w n) v (w - length v))
      (sym (xors_front (to_bytes w n) (bytes w l) v (rw e k)))
  lane_in (n ∷ l) (suc q) v h k s =
      let e : length (to_bytes w n) ≡ w = to_bytes-length w n in
      rw (step-lane q, placed_add w (w * q) v, lane_in l q v (omega arith) k s)
      (sym (rw e at (xors_skip (to_bytes w n) (bytes w l) (placed (w * q) v))))

  lane_at : (l : List ℕ) (q : ℕ) → q < length l → drop (w * q) (bytes w l) ≡ to_bytes w (get_or l q 0) ++ bytes w (drop (suc q) l)
  unfolding bytes
  lane_at [] q h = absurd (omega arith)
  lane_at (n ∷ l) zero h = rw mul-zero refl
  lane_at (n ∷ l) (suc q) h =
      rw (step-lane q, ← drop-drop (w * q) w (to_bytes w n ++ bytes w l), drop_at (to_bytes w n) (bytes w l) w (to_bytes-length w n)) (lane_at l q (omega arith))

  -- the number of bytes xored with lane q is those bytes under the key stream from byte w q on
  pub lane_out : (l : List ℕ) (q : ℕ) (v : Bytes) → q < length l → length v ≤ w → Small v
      → to_bytes (length v) (bit_xor (from_bytes v) (get_or l q 0)) ≡ mask (bytes w l) (w * q) v
  lane_out l q v h k s = rw (lane_at l q h) (keyed w v (get_or l q 0) (bytes w (drop (suc q) l)) k s)

-- ---- the turns of the loops over the lanes that a run of bytes fills, from lane q on
module _ (w q : ℕ) (v : Bytes) (small : Small v) where
  -- the first a bytes of v are in; the k from there on go into lane q + j
  pub xor_in_more : (b₀ : Bytes) (l : List ℕ) (j k : ℕ) → q + j < length l → k ≤ w → w * j + k ≤ length v
      → bytes w l ≡ xors b₀ (placed (w * q) (take (w * j) v))
      → bytes w (set l (q + j) (bit_xor (get_or l (q + j) 0) (from_bytes (take k (drop (w * j) v))))) ≡ xors b₀ (placed (w * q) (take (w * j + k) v))
  xor_in_more b₀ l j k hl hk hv e =
      let x : Bytes = take (w * j) v in
      let y : Bytes = take k (drop (w * j) v) in
      let ly : length y ≡ k = length-take-le k (drop (w * j) v) (rw length-drop (omega arith)) in
      let lx : length (placed (w * q) x) + 0 ≡ w * (q + j) = simp (length-append, length-replicate, length-take-le (w * j) v (omega arith), mul-add) (omega arith) in
      let behind : xors (xors b₀ (placed (w * q) x)) (placed (w * (q + j)) y) ≡ xors b₀ (placed (w * q) x ++ y) = rw lx at (xors_behind b₀ (placed (w * q) x) 0 y) in
      lane_in w l (q + j) y hl (rw ly hk) (small_part (w * j) k v small)
      ∙ ap (λ (z : Bytes). xors z (placed (w * (q + j)) y)) e ∙ behind
      ∙ rw (append_assoc, take-add (w * j) k v) refl

  pub stream_more : (l : List ℕ) (j k : ℕ) → q + j < length l → k ≤ w → w * j + k ≤ length v → w * (q + j) ≤ length (bytes w l)
      → mask (bytes w l) (w * q) (take (w * j) v) ++ to_bytes k (bit_xor (from_bytes (take k (drop (w * j) v))) (get_or l (q + j) 0)) ≡ mask (bytes w l) (w * q) (take (w * j + k) v)
  stream_more l j k hl hk hv room =
      let y : Bytes = take k (drop (w * j) v) in
      let ly : length y ≡ k = length-take-le k (drop (w * j) v) (rw length-drop (omega arith)) in
      let lx : length (take (w * j) v) ≡ w * j = length-take-le (w * j) v (omega arith) in
      let p : w * q + w * j ≡ w * (q + j) = sym (mul-add w q j) in
      let o : to_bytes k (bit_xor (from_bytes y) (get_or l (q + j) 0)) ≡ mask (bytes w l) (w * (q + j)) y
      = rw ly at (lane_out w l (q + j) y hl (rw ly hk) (small_part (w * j) k v small)) in
      rw (take-add (w * j) k v, mask_append (bytes w l) (w * q) (take (w * j) v) y (rw (lx, p) room), lx, p, o) refl
