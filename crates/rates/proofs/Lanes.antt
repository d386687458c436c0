-- Whole lanes: std's quotient that is rounded up is document 003's, more bits hold no fewer lanes, and a lane's bytes are its bits.
use mathlib.Core.Path.{◌≡◌, ap, ◌∙◌}
use Prim.Native.Nat.{ℕ, zero, suc, ◌+◌, ◌-◌, ◌*◌, ◌/◌, ◌%◌, ◌^◌, ◌≤◌, ◌<◌, min}
use native.Mathlib.Nat.{div-mul-le_self}
use native.Mathlib.Omega.{arith}
use Rattle.std.proofs.lemmas.Nat.{div-add-mod', div-mul-add, le-div, mod_below, mul-le}
use Rattle.keccak.proofs.State.{whole_bytes}
use Rattle.lanes.specs.Width.{Width}

up : (q d r n : ℕ) → 0 < d → q * d + r ≡ n → r < d → q + min 1 r ≡ (n + (d - 1)) / d
up q d zero n p e h =
    let m : n + (d - 1) ≡ q * d + (d - 1) = omega arith in
    let f : (n + (d - 1)) / d ≡ q = ap (λ (x : ℕ). x / d) m ∙ div-mul-add q d (d - 1) (omega arith) in
    omega arith
up q d (suc k) n p e h =
    let m : n + (d - 1) ≡ (q + 1) * d + k = omega arith in
    let f : (n + (d - 1)) / d ≡ q + 1 = ap (λ (x : ℕ). x / d) m ∙ div-mul-add (q + 1) d k (omega arith) in
    omega arith

pub rounded_up : (n d : ℕ) → 0 < d → n / d + min 1 (n % d) ≡ (n + (d - 1)) / d
rounded_up n d p = up (n / d) d (n % d) n p (div-add-mod' n d) (mod_below n d p)

pub more_lanes : (a b d : ℕ) → 0 < d → a ≤ b → a / d * d / 8 ≤ b / d * d / 8
more_lanes a b d p h =
    let q : a / d ≤ b / d = le-div (a / d) b d p (omega (arith, div-mul-le_self a d)) in
    let m : a / d * d ≤ b / d * d = mul-le (a / d) d (b / d) d q (omega arith) in
    omega arith

pub bits_of : {l w : ℕ} → Width l w → 8 * w ≡ 2 ^ l
bits_of {l} {w} width = ap (λ (n : ℕ). 8 * n) width.bytes ∙ whole_bytes l width.least
