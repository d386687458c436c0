-- Rounds on lanes are the rounds of KECCAK-p, and what the code's loop makes of them.
use mathlib.Core.Path.{◌≡◌, ap, ◌∙◌}
use mathlib.Core.List.{List}
use Prim.Native.Nat.{ℕ, zero, suc, ◌+◌, ◌-◌, ◌*◌, ◌%◌, ◌^◌, ◌≤◌, ◌<◌}
use native.Mathlib.Omega.{arith}
use lib.ListN.{get_or, take, drop, length}
use lib.Seq.{get_or-drop, get_or-take}
use Rattle.keccak.specs.Keccak.{State, theta, rho, pi, chi, round, keccak_p}
use Rattle.keccak.specs.Tables.{constants}
use Rattle.keccak.specs.Lanes.{bits, lanes_of, theta_l, rho_pi_l, chi_l, iota_l, round_l, rounds_l, constant}
use Rattle.keccak.proofs.Lanes.{Holds, holds_bits, holds_only}
use Rattle.keccak.proofs.Tables.{constants_right}
use Rattle.keccak.proofs.Steps.{theta_holds, rho-pi_holds, chi_holds, iota_holds}

round_holds : (l r : ℕ) (s : List ℕ) (a : State) → Holds (2 ^ l) s a → Holds (2 ^ l) (round_l (2 ^ l) (constant l r) s) (round l r a)
unfolding round_l round
round_holds l r s a h =
    let w : ℕ = 2 ^ l in
    iota_holds l r (chi_l w (rho_pi_l w (theta_l w s))) (chi (pi (rho w (theta w a))))
    (chi_holds w (rho_pi_l w (theta_l w s)) (pi (rho w (theta w a))) (rho-pi_holds w (theta_l w s) (theta w a) (theta_holds w s a h)))

pub rounds_hold : (l n : ℕ) (s : List ℕ) (a : State) → Holds (2 ^ l) s a → Holds (2 ^ l) (rounds_l l n s) (keccak_p l n a)
unfolding rounds_l keccak_p
rounds_hold l zero s a h = h
rounds_hold l (suc n) s a h = rounds_hold l n _ _ (round_holds l (12 + 2 * l - suc n) s a h)

-- the last n rounds on lanes are KECCAK-p on the state that the lanes are
pub rounds_keccak : (l n : ℕ) (s : List ℕ) → length s ≡ 25 → ((i : ℕ) → get_or s i 0 < 2 ^ 2 ^ l) → rounds_l l n s ≡ lanes_of (2 ^ l) (keccak_p l n (bits s))
rounds_keccak l n s e h = holds_only (2 ^ l) _ _ (rounds_hold l n s (bits s) (holds_bits (2 ^ l) s e h))

-- ---- the code: the four calls of a round, and a turn of the loop
pub round_made : (w k : ℕ) (s t u v q : List ℕ) → t ≡ theta_l w s → u ≡ rho_pi_l w t → v ≡ chi_l w u → q ≡ iota_l k v → q ≡ round_l w k s
unfolding round_l
round_made w k s t u v q d e f g = g ∙ ap (iota_l k) (f ∙ ap (chi_l w) (e ∙ ap (rho_pi_l w) d))

pub rounds_none : (l n : ℕ) (s : List ℕ) → n ≡ 0 → rounds_l l n s ≡ s
unfolding rounds_l
rounds_none l n s e = rw e

pub rounds-turn : (l r k : ℕ) (table s t : List ℕ) → l ≤ 6 → r < 12 + 2 * l → table ≡ constants → k ≡ get_or table r 0 % 2 ^ 2 ^ l → t ≡ round_l (2 ^ l) k s
    → rounds_l l (12 + 2 * l - (r + 1)) t ≡ rounds_l l (12 + 2 * l - r) s
unfolding rounds_l
rounds-turn l r k table s t b h q c e =
    let n : ℕ = 12 + 2 * l - (r + 1) in
    let m : 12 + 2 * l - r ≡ suc n = omega arith in
    let i : 12 + 2 * l - suc n ≡ r = omega arith in
    let d : k ≡ constant l (12 + 2 * l - suc n) = rw i (c ∙ rw q (constants_right l r b (omega arith))) in
    rw m (ap (rounds_l l n) (e ∙ ap (λ (j : ℕ). round_l (2 ^ l) j s) d))

-- the same where the constants of the last n rounds are gone through, of which this is number i
pub last-turn : (l n i all : ℕ) (table s t : List ℕ) → l ≤ 6 → all ≡ 12 + 2 * l → n ≤ all → i < n → table ≡ constants
    → t ≡ round_l (2 ^ l) (get_or (take (all - (all - n)) (drop (all - n) table)) i 0 % 2 ^ 2 ^ l) s → rounds_l l (n - (i + 1)) t ≡ rounds_l l (n - i) s
last-turn l n i all table s t b ea hn hi q e =
    let r : ℕ = all - n + i in
    let c : get_or (take (all - (all - n)) (drop (all - n) table)) i 0 ≡ get_or table r 0
    = get_or-take (all - (all - n)) (drop (all - n) table) i 0 (omega arith) ∙ get_or-drop (all - n) table i 0 in
    let z = rounds-turn l r _ table s t b (omega arith) q (ap (λ (k : ℕ). k % 2 ^ 2 ^ l) c) e in
    let m : 12 + 2 * l - (r + 1) ≡ n - (i + 1) = omega arith in
    let o : 12 + 2 * l - r ≡ n - i = omega arith in
    rw (m, o) at z
