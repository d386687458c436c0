-- When a call of the permutation answers what, over every l; that its contract fixes the answer; and what the code shows to meet it.
use mathlib.Core.Path.{◌≡◌, refl, sym, ◌∙◌}
use mathlib.Core.Bool.{true, false}
use mathlib.Core.Logic.{◌⊎◌, inl, inr, ⊎_elim, ◌↔◌}
use mathlib.Core.List.{List}
use Prim.Native.Nat.{ℕ, zero, suc, ◌+◌, ◌*◌, ◌^◌, ◌≤◌, ◌<◌}
use native.Mathlib.Decide.{dec_le}
use native.Mathlib.Omega.{arith}
use lib.ListN.{get_or, length}
use borrow.Author.Tests.{lt-ltb, le-leb, lt-leb}
use Rattle.keccak.specs.Keccak.{keccak_p}
use Rattle.keccak.specs.Lanes.{bits, lanes_of, rounds_l}
use Rattle.keccak.specs.Permutes.{asked, rounds_done, permuted, Permutes}
use Rattle.keccak.proofs.Rounds.{rounds_keccak, rounds_none}

asked_yes : (l n : ℕ) → 0 < n → n ≤ 12 + 2 * l → asked l n ≡ true
asked_yes l n h k = rw (lt-ltb 0 n h, le-leb n (12 + 2 * l) k)

asked_not : (l n : ℕ) → 12 + 2 * l < n → asked l n ≡ false
asked_not l n h = rw (lt-ltb 0 n (omega arith), lt-leb n (12 + 2 * l) h)

-- ---- the rounds done, and the lanes returned
done_within : (l n : ℕ) → n ≤ 12 + 2 * l → rounds_done l n ≡ n
unfolding rounds_done
done_within l zero h = refl
done_within l (suc n) h = rw (asked_yes l (suc n) (omega arith) h)

done_beyond : (l n : ℕ) → 12 + 2 * l < n → rounds_done l n ≡ 0
unfolding rounds_done
done_beyond l n h = rw (asked_not l n h)

module _ (l : ℕ) (s : List ℕ) where
  permuted_none : permuted l 0 s ≡ s
  unfolding permuted
  permuted_none = refl

  permuted-asked : (n : ℕ) → 0 < n → n ≤ 12 + 2 * l → permuted l n s ≡ lanes_of (2 ^ l) (keccak_p l n (bits s))
  unfolding permuted
  permuted-asked n h k = rw (asked_yes l n h k)

  permuted_beyond : (n : ℕ) → 12 + 2 * l < n → permuted l n s ≡ s
  unfolding permuted
  permuted_beyond n h = rw (asked_not l n h)

-- ---- what an answer says
module _ {l n : ℕ} {s : List ℕ} {k : ℕ} {t : List ℕ} (p : Permutes l n s k t) where
  -- m rounds are answered exactly if m was asked and is 1 to 12 + 2 l
  pub answers_rounds : (m : ℕ) → 0 < m → (k ≡ m) ↔ ((n ≡ m) × (m ≤ 12 + 2 * l))
  answers_rounds m h = (λ e. there e (dec_le n (12 + 2 * l)), λ q. p.rounds_told ∙ rw q.0 (done_within l m q.1))
    where
      there : k ≡ m → Dec (n ≤ 12 + 2 * l) → (n ≡ m) × (m ≤ 12 + 2 * l)
      there e (yes b) = omega (arith, p.rounds_told, done_within l n b)
      there e (no b) = absurd (omega (arith, p.rounds_told, done_beyond l n (omega (arith, b))))

  -- 0 exactly if the count was 0 or more than that
  pub answers_none : (k ≡ 0) ↔ ((n ≡ 0) ⊎ (12 + 2 * l < n))
  answers_none = (
    λ e. there e (dec_le n (12 + 2 * l)),
    ⊎_elim (λ z. p.rounds_told ∙ rw z (done_within l 0 (omega arith))) (λ b. p.rounds_told ∙ done_beyond l n b),
  )
    where
      there : k ≡ 0 → Dec (n ≤ 12 + 2 * l) → (n ≡ 0) ⊎ (12 + 2 * l < n)
      there e (yes b) = inl (omega (arith, p.rounds_told, done_within l n b))
      there e (no b) = inr (omega (arith, b))

  -- then the lanes are as given
  pub answers_given : k ≡ 0 → t ≡ s
  answers_given e =
      p.lanes_permuted ∙ ⊎_elim (λ z. rw z (permuted_none l s)) (λ b. permuted_beyond l s n b) (answers_none.0 e)

-- two answers to one call are equal
pub answers_same : {l n : ℕ} {s : List ℕ} {k k' : ℕ} {t t' : List ℕ} → Permutes l n s k t → Permutes l n s k' t' → (k ≡ k') × (t ≡ t')
answers_same p q = (p.rounds_told ∙ sym q.rounds_told, p.lanes_permuted ∙ sym q.lanes_permuted)

-- ---- the code: a count within the rounds of KECCAK-f, and one beyond
pub permutes_within : (l : ℕ) (s t : List ℕ) → length s ≡ 25 → ((i : ℕ) → get_or s i 0 < 2 ^ 2 ^ l)
    → (n : ℕ) → n ≤ 12 + 2 * l → t ≡ rounds_l l n s → Permutes l n s n t
permutes_within l s t long small zero h e =
    record { rounds_told = sym (done_within l 0 h); lanes_permuted = e ∙ rounds_none l 0 s refl ∙ sym (permuted_none l s) }
permutes_within l s t long small (suc n) h e = record {
  rounds_told = sym (done_within l (suc n) h);
  lanes_permuted = e ∙ rounds_keccak l (suc n) s long small ∙ sym (permuted-asked l s (suc n) (omega arith) h);
}

pub permutes_beyond : (l n : ℕ) (s : List ℕ) → 12 + 2 * l < n → Permutes l n s 0 s
permutes_beyond l n s h = record { rounds_told = sym (done_beyond l n h); lanes_permuted = sym (permuted_beyond l s n h) }
