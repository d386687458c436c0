-- Laws of the state as bytes and as bits: bytes and lanes are one to one, byte i and bit j, and the permutation of bytes.
use mathlib.Core.Path.{◌≡◌, refl, sym, ap, ◌∙◌}
use mathlib.Core.List.{List, [], ◌∷◌, ◌++◌}
use Prim.Native.Nat.{ℕ, zero, suc, ◌+◌, ◌-◌, ◌*◌, ◌/◌, ◌%◌, ◌^◌, ◌≤◌, ◌<◌}
use native.Mathlib.Nat.{zero-add, mod-lt, zero-div, zero-mod, div-one, mul_comm, div-add-mod', lt_of_lt_of_le}
use native.Mathlib.Omega.{arith}
use lib.ListN.{get_or, length, take, drop, length-append, length-take, length-drop, take-append-drop, get_or-append}
use lib.Seq.{get_or-append-add, take_at, drop_at, length-take-le}
use lib.Pow.{pow-add, pow_pos, pow_mono, shr-shr}
use Rattle.endian.specs.Little.{from_bytes, to_bytes}
use Rattle.endian.proofs.Laws.{to_bytes-length, to_bytes_small, from_bytes_lt, to_from, from_to}
use Rattle.endian.specs.Small.{Small}
use Rattle.endian.proofs.Small.{small_nil, small_append, small_take, small_drop}
use Rattle.keccak.specs.Keccak.{keccak_p}
use Rattle.keccak.specs.Bits.{bit}
use Rattle.keccak.specs.Lanes.{from, bits, lanes_of, rounds_l}
use Rattle.keccak.specs.State.{string, bytes, lanes_from, keccak_bytes}
use Rattle.keccak.proofs.Bits.{bit_shr, bit_mod}
use Rattle.keccak.proofs.Lanes.{Holds, holds_bits, from-length, get_or-from, lanes_of-length}
use Rattle.keccak.proofs.Rounds.{rounds_hold, rounds_keccak}

-- ---- lengths
pub bytes-length : (w : ℕ) (s : List ℕ) → length (bytes w s) ≡ w * length s
unfolding bytes
bytes-length w [] = omega arith
bytes-length w (n ∷ s) = rw (length-append, to_bytes-length, bytes-length w s) (omega arith)

pub string-length : (w : ℕ) (s : List ℕ) → length (string w s) ≡ w * length s
unfolding string
string-length w [] = omega arith
string-length w (n ∷ s) = rw (length-append, from-length, string-length w s) (omega arith)

pub lanes_from-length : (w n : ℕ) (s : List ℕ) → length (lanes_from w n s) ≡ n
unfolding lanes_from
lanes_from-length w zero s = refl
lanes_from-length w (suc n) s = ap suc (lanes_from-length w n (drop w s))

-- ---- bytes: byte r of a number
pub to_bytes_at : (w x r : ℕ) → r < w → get_or (to_bytes w x) r 0 ≡ x / 2 ^ (8 * r) % 2 ^ 8
unfolding to_bytes
to_bytes_at zero x r h = absurd (omega arith)
to_bytes_at (suc w) x zero h = rw div-one
to_bytes_at (suc w) x (suc r) h =
    let e : 8 * suc r ≡ 8 + 8 * r = omega arith in
    to_bytes_at w (x / 2 ^ 8) r (omega arith) ∙ rw (e, ← shr-shr x 8 (8 * r))

-- byte r of lane q
pub bytes-lane : (w : ℕ) (s : List ℕ) (q r : ℕ) → r < w → get_or (bytes w s) (w * q + r) 0 ≡ get_or s q 0 / 2 ^ (8 * r) % 2 ^ 8
unfolding bytes
bytes-lane w [] q r h = rw zero-div (sym (zero-mod (2 ^ 8)))
bytes-lane w (n ∷ s) zero r h =
    let e : w * 0 + r ≡ r = omega arith in
    rw e (get_or-append (to_bytes w n) (bytes w s) 0 r (omega (arith, to_bytes-length w n)) ∙ to_bytes_at w n r h)
bytes-lane w (n ∷ s) (suc q) r h =
    let e : w * suc q + r ≡ length (to_bytes w n) + (w * q + r) = omega (arith, to_bytes-length w n) in
    rw e (get_or-append-add (to_bytes w n) (bytes w s) (w * q + r) 0 ∙ bytes-lane w s q r h)

-- byte i is byte i % w of lane i / w
pub bytes_at : (w : ℕ) → 0 < w → (s : List ℕ) (i : ℕ) → get_or (bytes w s) i 0 ≡ get_or s (i / w) 0 / 2 ^ (8 * (i % w)) % 2 ^ 8
bytes_at w h s i =
    let e : i ≡ w * (i / w) + i % w = sym (rw (mul_comm w (i / w)) (div-add-mod' i w)) in
    ap (λ (k : ℕ). get_or (bytes w s) k 0) e ∙ bytes-lane w s (i / w) (i % w) (mod-lt i h)

pub bytes_small : (w : ℕ) (s : List ℕ) → Small (bytes w s)
unfolding bytes
bytes_small w [] = small_nil
bytes_small w (n ∷ s) = small_append (to_bytes w n) (bytes w s) (to_bytes_small w n) (bytes_small w s)

-- ---- bits
bit_none : (z : ℕ) → bit 0 z ≡ 0
unfolding bit
bit_none z = rw zero-div

-- s[w i + z] is bit z of lane i
pub string-lane : (w : ℕ) (s : List ℕ) (i z : ℕ) → z < w → get_or (string w s) (w * i + z) 0 ≡ bit (get_or s i 0) z
unfolding string
string-lane w [] i z h = sym (bit_none z)
string-lane w (n ∷ s) zero z h =
    let e : w * 0 + z ≡ z = omega arith in
    rw e (get_or-append (from w 0 (bit n)) (string w s) 0 z (omega (arith, from-length w 0 (bit n))) ∙ get_or-from w 0 z (bit n) h ∙ ap (bit n) (zero-add z))
string-lane w (n ∷ s) (suc i) z h =
    let e : w * suc i + z ≡ length (from w 0 (bit n)) + (w * i + z) = omega (arith, from-length w 0 (bit n)) in
    rw e (get_or-append-add (from w 0 (bit n)) (string w s) (w * i + z) 0 ∙ string-lane w s i z h)

-- s[w (5 y + x) + z] = a[x, y, z]
pub string_state : (w : ℕ) (s : List ℕ) (x y z : ℕ) → z < w → get_or (string w s) (w * (5 * y + x) + z) 0 ≡ bits s x y z
unfolding bits
string_state w s x y z h = string-lane w s (5 * y + x) z h

-- bit j of byte i is s[8 i + j]
pub string_byte : (w : ℕ) → 0 < w → (s : List ℕ) (i j : ℕ) → j < 8 → bit (get_or (bytes w s) i 0) j ≡ get_or (string (8 * w) s) (8 * i + j) 0
string_byte w h s i j k =
    let q : ℕ = i / w in
    let r : ℕ = i % w in
    let b : r < w = mod-lt i h in
    let d : i ≡ w * q + r = sym (rw (mul_comm w q) (div-add-mod' i w)) in
    let e : 8 * i + j ≡ 8 * w * q + (8 * r + j) = omega arith in
    rw (bytes_at w h s i, e) (bit_mod _ 8 j k ∙ bit_shr _ (8 * r) j ∙ sym (string-lane (8 * w) s q (8 * r + j) (omega arith)))

-- ---- bytes and lanes are one to one
module _ (w : ℕ) where
  pub lanes_from_lt : (n : ℕ) (s : List ℕ) → Small s → (i : ℕ) → get_or (lanes_from w n s) i 0 < 2 ^ (8 * w)
  unfolding lanes_from
  lanes_from_lt zero s h i = pow_pos (8 * w)
  lanes_from_lt (suc n) s h zero =
      let e : 8 * length (take w s) ≤ 8 * w = rw length-take (omega arith) in
      lt_of_lt_of_le (from_bytes_lt (take w s) (small_take w s h)) (pow_mono e)
  lanes_from_lt (suc n) s h (suc i) = lanes_from_lt n (drop w s) (small_drop w s h) i

  pub lanes_bytes : (s : List ℕ) → ((i : ℕ) → get_or s i 0 < 2 ^ (8 * w)) → lanes_from w (length s) (bytes w s) ≡ s
  unfolding lanes_from bytes
  lanes_bytes [] h = refl
  lanes_bytes (n ∷ s) h =
      let t : take w (to_bytes w n ++ bytes w s) ≡ to_bytes w n = take_at (to_bytes w n) (bytes w s) w (to_bytes-length w n) in
      let d : drop w (to_bytes w n ++ bytes w s) ≡ bytes w s = drop_at (to_bytes w n) (bytes w s) w (to_bytes-length w n) in
      rw (t, d, from_to w n (h 0), lanes_bytes s (λ i. h (suc i)))

  pub bytes-lanes : (n : ℕ) (s : List ℕ) → length s ≡ w * n → Small s → bytes w (lanes_from w n s) ≡ s
  unfolding lanes_from bytes
  bytes-lanes zero [] e h = refl
  bytes-lanes zero (v ∷ s) e h = absurd (omega arith)
  bytes-lanes (suc n) s e h =
      let k : length (take w s) ≡ w = length-take-le w s (omega arith) in
      let t : to_bytes w (from_bytes (take w s)) ≡ take w s = rw k at (to_from (take w s) (small_take w s h)) in
      rw (t, bytes-lanes n (drop w s) (rw length-drop (omega arith)) (small_drop w s h)) (take-append-drop w s)

-- ---- the permutation of bytes
pub keccak_bytes-length : (l n : ℕ) (s : List ℕ) → length (keccak_bytes l n s) ≡ 2 ^ l / 8 * 25
unfolding keccak_bytes
keccak_bytes-length l n s = bytes-length _ _ ∙ ap (λ (k : ℕ). 2 ^ l / 8 * k) (lanes_of-length _ _)

pub keccak_bytes_small : (l n : ℕ) (s : List ℕ) → Small (keccak_bytes l n s)
unfolding keccak_bytes
keccak_bytes_small l n s = bytes_small _ _

-- lanes of 8 bits or more are whole bytes
pub whole_bytes : (l : ℕ) → 3 ≤ l → 8 * (2 ^ l / 8) ≡ 2 ^ l
whole_bytes l h =
    let e : l ≡ 3 + (l - 3) = omega arith in
    let p : 2 ^ l ≡ 8 * 2 ^ (l - 3) = ap (λ (k : ℕ). 2 ^ k) e ∙ pow-add 2 3 (l - 3) in
    omega arith

-- the bit at (x, y, z) of lanes is bit j of byte i of their bytes, where s[8 i + j] is s[w (5 y + x) + z]
lanes-bit : (l : ℕ) → 3 ≤ l → (s : List ℕ) (x y z i j : ℕ) → z < 2 ^ l → j < 8 → 8 * i + j ≡ 2 ^ l * (5 * y + x) + z
    → bit (get_or (bytes (2 ^ l / 8) s) i 0) j ≡ bits s x y z
lanes-bit l h s x y z i j k m e =
    let w : 8 * (2 ^ l / 8) ≡ 2 ^ l = whole_bytes l h in
    string_byte (2 ^ l / 8) (omega (arith, pow_pos l)) s i j m ∙ rw (w, e) (string_state (2 ^ l) s x y z k)

module _ (l n : ℕ) (s : List ℕ) (h : 3 ≤ l) (long : length s ≡ 25) (small : (i : ℕ) → get_or s i 0 < 2 ^ 2 ^ l) where
  -- the bytes of permuted lanes are the permuted bytes
  pub keccak_bytes_lem : bytes (2 ^ l / 8) (lanes_of (2 ^ l) (keccak_p l n (bits s))) ≡ keccak_bytes l n (bytes (2 ^ l / 8) s)
  unfolding keccak_bytes
  keccak_bytes_lem =
      let b : (i : ℕ) → get_or s i 0 < 2 ^ (8 * (2 ^ l / 8)) = λ i. rw (whole_bytes l h) (small i) in
      let e : lanes_from (2 ^ l / 8) 25 (bytes (2 ^ l / 8) s) ≡ s = rw long at (lanes_bytes (2 ^ l / 8) s b) in
      rw e

  pub rounds-bytes : (t : List ℕ) → t ≡ rounds_l l n s → bytes (2 ^ l / 8) t ≡ keccak_bytes l n (bytes (2 ^ l / 8) s)
  rounds-bytes t e = ap (bytes (2 ^ l / 8)) (e ∙ rounds_keccak l n s long small) ∙ keccak_bytes_lem

-- ---- in 003's words: a[x, y, z] of the state before and after, read off the bytes
module _ (l n : ℕ) (s : List ℕ) (h : 3 ≤ l) (long : length s ≡ 2 ^ l / 8 * 25) (small : Small s) where
  module _ (x y z i j : ℕ) (hx : x < 5) (hy : y < 5) (hz : z < 2 ^ l) (hj : j < 8) (e : 8 * i + j ≡ 2 ^ l * (5 * y + x) + z) where
    pub before_bit : bits (lanes_from (2 ^ l / 8) 25 s) x y z ≡ bit (get_or s i 0) j
    before_bit =
        sym (lanes-bit l h (lanes_from (2 ^ l / 8) 25 s) x y z i j hz hj e)
        ∙ ap (λ (t : List ℕ). bit (get_or t i 0) j) (bytes-lanes (2 ^ l / 8) 25 s long small)

    pub after_bit : keccak_p l n (bits (lanes_from (2 ^ l / 8) 25 s)) x y z ≡ bit (get_or (keccak_bytes l n s) i 0) j
    unfolding keccak_bytes bits
    after_bit =
        let t : List ℕ = lanes_from (2 ^ l / 8) 25 s in
        let b : (k : ℕ) → get_or t k 0 < 2 ^ 2 ^ l = λ k. rw (whole_bytes l h) at (lanes_from_lt (2 ^ l / 8) 25 s small k) in
        let q : length t ≡ 25 = lanes_from-length (2 ^ l / 8) 25 s in
        let a : Holds (2 ^ l) (rounds_l l n t) (keccak_p l n (bits t)) = rounds_hold l n t (bits t) (holds_bits (2 ^ l) t q b) in
        sym (a.agree x y z hx hy hz) ∙ sym (lanes-bit l h (rounds_l l n t) x y z i j hz hj e)
        ∙ ap (λ (u : List ℕ). bit (get_or (bytes (2 ^ l / 8) u) i 0) j) (rounds_keccak l n t q b)
