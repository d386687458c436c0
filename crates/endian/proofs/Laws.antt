-- The two definitions undo each other, and their sizes.
-- Assumes nothing.
use mathlib.Core.Path.{◌≡◌, refl, sym, ap, ◌∙◌}
use mathlib.Core.List.{List, [], ◌∷◌, ◌++◌, reverse}
use Prim.Native.Nat.{ℕ, zero, suc, ◌+◌, ◌*◌, ◌/◌, ◌%◌, ◌^◌, ◌≤◌, ◌<◌}
use native.Mathlib.Omega.{arith}
use native.Mathlib.Nat.{mod-lt, div-one, lt_of_lt_of_le}
use lib.Pow.{shr-shr, pow-add, pow_mono}
use lib.Bits.{bit_or}
use lib.Seq.{drop-cons}
use lib.ListN.{length, get_or, set, drop, drop_of_length-le}
use native.Mathlib.Numerals.{add-one}
use Rattle.std.specs.List.{fold}
use Rattle.std.proofs.lemmas.List.{reverse-append}
use Rattle.std.proofs.lemmas.List.Sums.{fold_push}
use Rattle.std.proofs.lemmas.Nat.{or_shifted}
use Rattle.slices.proofs.Parts.{grow_one}
use Rattle.endian.specs.Little.{from_bytes, to_bytes}
use Rattle.endian.specs.Small.{Small}
use Rattle.endian.proofs.Small.{small_nil, small_cons}

pub to_bytes-length : (n x : ℕ) → length (to_bytes n x) ≡ n
unfolding to_bytes
to_bytes-length zero x = refl
to_bytes-length (suc n) x = ap suc (to_bytes-length n (x / 2 ^ 8))

-- each is a byte
pub to_bytes_small : (n x : ℕ) → Small (to_bytes n x)
unfolding to_bytes
to_bytes_small zero x = small_nil
to_bytes_small (suc n) x = small_cons (x % 2 ^ 8) (to_bytes n (x / 2 ^ 8)) (mod-lt x (omega arith)) (to_bytes_small n (x / 2 ^ 8))

-- a number of n bytes is below 2 ^ (8 n)
pub from_bytes_lt : (vs : List ℕ) → Small vs → from_bytes vs < 2 ^ (8 * length vs)
unfolding from_bytes
from_bytes_lt [] h = omega arith
from_bytes_lt (v ∷ vs) h =
    let e : 8 * suc (length vs) ≡ 8 + 8 * length vs = omega arith in
    let p : 2 ^ (8 + 8 * length vs) ≡ 2 ^ 8 * 2 ^ (8 * length vs) = pow-add 2 8 (8 * length vs) in
    rw (e, p) (omega (arith, h 0, from_bytes_lt vs (λ i. h (suc i))))

-- bytes to a number and back
pub to_from : (vs : List ℕ) → Small vs → to_bytes (length vs) (from_bytes vs) ≡ vs
unfolding from_bytes to_bytes
to_from [] h = refl
to_from (v ∷ vs) h =
    let b : v < 2 ^ 8 = h 0 in
    let lo : (v + 2 ^ 8 * from_bytes vs) % 2 ^ 8 ≡ v = omega arith in
    let hi : (v + 2 ^ 8 * from_bytes vs) / 2 ^ 8 ≡ from_bytes vs = omega arith in
    rw (lo, hi) (ap (λ (x : List ℕ). v ∷ x) (to_from vs (λ i. h (suc i))))

-- a number to bytes and back
pub from_to : (n x : ℕ) → x < 2 ^ (8 * n) → from_bytes (to_bytes n x) ≡ x
unfolding from_bytes to_bytes
from_to zero x h = omega arith
from_to (suc n) x h =
    let e : 8 * suc n ≡ 8 + 8 * n = omega arith in
    let p : 2 ^ (8 + 8 * n) ≡ 2 ^ 8 * 2 ^ (8 * n) = pow-add 2 8 (8 * n) in
    let k : x < 2 ^ 8 * 2 ^ (8 * n) = rw (e, p) at h in
    rw (from_to n (x / 2 ^ 8) (omega arith)) (omega arith)

-- ---- byte by byte, as the code reads and writes them
-- the number whose n bytes stand in s from place i on
abbrev pub places_of : ℕ → ℕ → List ℕ → ℕ
places_of i zero s = 0
places_of i (suc n) s = get_or s i 0 + 2 ^ 8 * places_of (suc i) n s

from_places : (n i : ℕ) (s : List ℕ) → length s ≡ i + n → from_bytes (drop i s) ≡ places_of i n s
unfolding from_bytes
from_places zero i s h = rw (drop_of_length-le s {i = i} (omega arith)) refl
from_places (suc n) i s h = rw (drop-cons s i 0 (omega arith), from_places n (suc i) s (omega arith)) refl

pub loaded : (n : ℕ) (s : List ℕ) → length s ≡ n → from_bytes s ≡ places_of 0 n s
loaded n s h = from_places n 0 s (omega arith)

-- byte i of x, as the code shifts it down: byte 0 is not shifted
abbrev pub byte_of : ℕ → ℕ → ℕ
byte_of zero x = x % 2 ^ 8
byte_of (suc i) x = x / 2 ^ (8 * suc i) % 2 ^ 8

-- the n bytes of x, the first of them byte i
abbrev pub bytes_from : ℕ → ℕ → ℕ → List ℕ
bytes_from i zero x = []
bytes_from i (suc n) x = byte_of i x ∷ bytes_from (suc i) n x

byte_of_shift : (i x : ℕ) → x / 2 ^ (8 * i) % 2 ^ 8 ≡ byte_of i x
byte_of_shift zero x = ap (λ (y : ℕ). y % 2 ^ 8) (div-one x)
byte_of_shift (suc i) x = refl

to_from-place : (n i x : ℕ) → to_bytes n (x / 2 ^ (8 * i)) ≡ bytes_from i n x
unfolding to_bytes
to_from-place zero i x = refl
to_from-place (suc n) i x =
    let e : 8 * suc i ≡ 8 * i + 8 = omega arith in
    let p : x / 2 ^ (8 * i) / 2 ^ 8 ≡ x / 2 ^ (8 * suc i) = rw e (shr-shr x (8 * i) 8) in
    rw (p, to_from-place n (suc i) x, byte_of_shift i x) refl

pub stored : (n x : ℕ) → to_bytes n x ≡ bytes_from 0 n x
stored n x = ap (to_bytes n) (sym (div-one x)) ∙ to_from-place n 0 x

-- ---- one byte more
-- n bytes at most are a number of 8 n bits
pub few_lt : (n : ℕ) (vs : List ℕ) → length vs ≤ n → Small vs → from_bytes vs < 2 ^ (8 * n)
few_lt n vs h b = let e : 8 * length vs ≤ 8 * n = omega arith in lt_of_lt_of_le (from_bytes_lt vs b) (pow_mono e)

pub to_snoc : (n x : ℕ) → to_bytes (suc n) x ≡ to_bytes n x ++ (x / 2 ^ (8 * n) % 2 ^ 8 ∷ [])
unfolding to_bytes
to_snoc zero x = rw (div-one x) refl
to_snoc (suc n) x =
    let e : 8 * suc n ≡ 8 + 8 * n = omega arith in
    rw (to_snoc n (x / 2 ^ 8), e, ← shr-shr x 8 (8 * n)) refl

-- one byte more behind those above it, as a number of 64 bits takes it in
abbrev pub byte_in : ℕ → ℕ → ℕ
byte_in x v = bit_or ((x * 2 ^ 8) % 2 ^ 64) v

-- eight bytes at most, the last taken in first
pub folded : (s : List ℕ) → length s ≤ 8 → Small s → fold byte_in 0 (reverse s) ≡ from_bytes s
unfolding from_bytes
folded [] h b = refl
folded (v ∷ vs) h b =
    let e = folded vs (omega arith) (λ i. b (suc i)) in
    let k : from_bytes vs < 2 ^ 56 = few_lt 7 vs (omega arith) (λ i. b (suc i)) in
    let m : (from_bytes vs * 2 ^ 8) % 2 ^ 64 ≡ from_bytes vs * 2 ^ 8 = omega arith in
    rw (reverse-append (v ∷ []) vs, fold_push byte_in 0 (reverse vs) v, e, m, or_shifted (from_bytes vs) 8 v (b 0)) (omega arith)

pub store_more : (x i : ℕ) (d : List ℕ) → i < length d → set (to_bytes i x ++ drop i d) i (x / 2 ^ (8 * i) % 2 ^ 8) ≡ to_bytes (i + 1) x ++ drop (i + 1) d
store_more x i d h = rw (grow_one (to_bytes i x) d i (x / 2 ^ (8 * i) % 2 ^ 8) 0 (to_bytes-length i x) h, add-one, to_snoc i x) refl

pub shift_more : (x i : ℕ) → x / 2 ^ (8 * i) / 256 ≡ x / 2 ^ (8 * (i + 1))
shift_more x i = let e : 8 * (i + 1) ≡ 8 * i + 8 = omega arith in rw e (shr-shr x (8 * i) 8)
