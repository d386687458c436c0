-- Laws of a list of 25 lanes and of the state that it holds.
use mathlib.Core.Path.{◌≡◌, refl, sym, ap, ap₂, ◌∙◌, subst}
use mathlib.Core.List.{List}
use Prim.Native.Nat.{ℕ, zero, suc, ◌+◌, ◌*◌, ◌/◌, ◌%◌, ◌^◌, ◌<◌}
use native.Mathlib.Nat.{mod-lt, add-zero, zero-add}
use native.Mathlib.Omega.{arith}
use lib.ListN.{get_or, length}
use lib.Seq.{ext_get_or}
use Rattle.keccak.specs.Keccak.{State}
use Rattle.keccak.specs.Bits.{bit, value}
use Rattle.keccak.specs.Lanes.{from, lane, lanes, bits, lanes_of}
use Rattle.keccak.proofs.Bits.{bit_lt, same_bits, value_lt, value-bit}

pub from-length : (n i : ℕ) (f : ℕ → ℕ) → length (from n i f) ≡ n
from-length zero i f = refl
from-length (suc n) i f = ap suc (from-length n (suc i) f)

pub get_or-from : (n i k : ℕ) (f : ℕ → ℕ) → k < n → get_or (from n i f) k 0 ≡ f (i + k)
get_or-from zero i k f h = absurd (omega arith)
get_or-from (suc n) i zero f h = ap f (sym (add-zero i))
get_or-from (suc n) i (suc k) f h = get_or-from n (suc i) k f (omega arith) ∙ ap f (omega arith)

pub get_or-lanes : (f : ℕ → ℕ → ℕ) (i : ℕ) → i < 25 → get_or (lanes f) i 0 ≡ f (i % 5) (i / 5)
get_or-lanes f i h = get_or-from 25 0 i (λ j. f (j % 5) (j / 5)) h ∙ rw zero-add

pub lane-lanes : (f : ℕ → ℕ → ℕ) (x y : ℕ) → x < 5 → y < 5 → lane (lanes f) x y ≡ f x y
lane-lanes f x y hx hy = get_or-lanes f (5 * y + x) (omega arith) ∙ ap₂ f (omega arith) (omega arith)

-- rules that give the same list, which antt computes, agree at each place
pub from_same : (n : ℕ) (f g : ℕ → ℕ) → from n 0 f ≡ from n 0 g → (k : ℕ) → k < n → f k ≡ g k
from_same n f g e k h =
    let at : (u : ℕ → ℕ) → get_or (from n 0 u) k 0 ≡ u k = λ u. get_or-from n 0 k u h ∙ rw zero-add in
    sym (at f) ∙ ap (λ (t : List ℕ). get_or t k 0) e ∙ at g

pub lanes_same : (f g : ℕ → ℕ → ℕ) → lanes f ≡ lanes g → (x y : ℕ) → x < 5 → y < 5 → f x y ≡ g x y
lanes_same f g e x y hx hy = sym (lane-lanes f x y hx hy) ∙ ap (λ (t : List ℕ). lane t x y) e ∙ lane-lanes g x y hx hy

-- the lanes s, of w bits each, hold the state a
pub record Holds (w : ℕ) (s : List ℕ) (a : State) : Type 0 where
  pub long : length s ≡ 25
  pub small : (x y : ℕ) → x < 5 → y < 5 → lane s x y < 2 ^ w
  pub agree : (x y z : ℕ) → x < 5 → y < 5 → z < w → bit (lane s x y) z ≡ a x y z

-- lanes that are right one by one
pub holds_lanes : (w : ℕ) (f : ℕ → ℕ → ℕ) (a : State) → ((x y : ℕ) → x < 5 → y < 5 → f x y < 2 ^ w)
    → ((x y z : ℕ) → x < 5 → y < 5 → z < w → bit (f x y) z ≡ a x y z) → Holds w (lanes f) a
holds_lanes w f a s g = record {
  long = refl;
  small = λ x y hx hy. rw (lane-lanes f x y hx hy) (s x y hx hy);
  agree = λ x y z hx hy hz. rw (lane-lanes f x y hx hy) (g x y z hx hy hz);
}

-- lanes hold their bits
pub holds_bits : (w : ℕ) (s : List ℕ) → length s ≡ 25 → ((i : ℕ) → get_or s i 0 < 2 ^ w) → Holds w s (bits s)
unfolding bits
holds_bits w s e h = record { long = e; small = λ x y hx hy. h (5 * y + x); agree = λ x y z hx hy hz. refl }

-- and are the only lanes that do
pub holds_only : (w : ℕ) (s : List ℕ) (a : State) → Holds w s a → s ≡ lanes_of w a
unfolding lanes_of
holds_only w s a h =
    ext_get_or 0 s (lanes (λ x y. value w (a x y))) h.long
    (λ i k.
    let n : i < 25 = omega (arith, h.long) in
    let x : ℕ = i % 5 in
    let y : ℕ = i / 5 in
    let hx : x < 5 = mod-lt i (omega arith) in
    let hy : y < 5 = omega arith in
    let b : (z : ℕ) → z < w → a x y z < 2 = λ z hz. subst (λ (v : ℕ). v < 2) (h.agree x y z hx hy hz) (bit_lt _ z) in
    let e : get_or s i 0 ≡ lane s x y = ap (λ (j : ℕ). get_or s j 0) (omega arith) in
    e
    ∙ same_bits w (lane s x y) (value w (a x y)) (h.small x y hx hy) (value_lt w (a x y) b)
    (λ z hz. h.agree x y z hx hy hz ∙ sym (value-bit w (a x y) b z hz))
    ∙ sym (get_or-lanes (λ u v. value w (a u v)) i n))

pub lanes_of-length : (w : ℕ) (a : State) → length (lanes_of w a) ≡ 25
unfolding lanes_of
lanes_of-length w a = refl
