-- The exact condition of each answer, over any list of rules: n is given exactly when a rule with that number holds and none
-- before it does, and 0 exactly when no rule holds. Calls cite these; a new refusal is one rule more and no new proof.
use mathlib.Core.Path.{◌≡◌, refl, sym, ap, ◌∙◌}
use mathlib.Core.Bool.{Bool, true, false}
use mathlib.Core.List.{List, [], ◌∷◌, ◌++◌}
use Prim.Native.Nat.{ℕ, zero, suc, ◌<◌}
use native.Mathlib.Omega.{arith}
use Rattle.table.specs.Refusals.{Rule, rule, or_else, first, if_done, None, First, Exact}

-- every number of the list is a refusal, not 0
abbrev pub Refuses : List Rule → Type 0
Refuses [] = Unit {0}
Refuses (r ∷ rs) = (0 < r.number) × Refuses rs

-- none holds: done
pub none_done : (rs : List Rule) → None rs → first rs ≡ 0
none_done [] h = refl
none_done (r ∷ rs) h = rw h.0 (none_done rs h.1)

-- done: none holds
pub done_none : (rs : List Rule) → Refuses rs → first rs ≡ 0 → None rs
done_none [] p e = tt
done_none (r ∷ rs) p e = by r.condition p.0 e (done_none rs p.1)
  where
    by : (b : Bool) → 0 < r.number → or_else b r.number (first rs) ≡ 0 → (first rs ≡ 0 → None rs) → (b ≡ false) × None rs
    by true q d k = absurd (omega arith)
    by false q d k = (refl, k d)

-- the first that holds is given
pub first_given : (n : ℕ) (rs : List Rule) → First n rs → first rs ≡ n
first_given n rs h = rw h.split (walk h.before h.none)
  where
    walk : (qs : List Rule) → None qs → first (qs ++ (rule true n ∷ h.after)) ≡ n
    walk [] k = refl
    walk (q ∷ qs) k = rw k.0 (walk qs k.1)

-- what is given, unless it is 0, is the first that holds
pub given_first : (n : ℕ) (rs : List Rule) → first rs ≡ suc n → First (suc n) rs
given_first n [] e = absurd (omega arith)
given_first n (r ∷ rs) e = by r.condition r.number e (given_first n rs)
  where
    by : (b : Bool) (m : ℕ) → or_else b m (first rs) ≡ suc n → (first rs ≡ suc n → First (suc n) rs) → First (suc n) (rule b m ∷ rs)
    by true m d k = record { before = []; after = rs; split = rw d; none = tt }
    by false m d k =
        let f : First (suc n) rs = k d in
        record { before = rule false m ∷ f.before; after = f.after; split = ap (λ (q : List Rule). rule false m ∷ q) f.split; none = (refl, f.none) }

-- both together
pub exact : (rs : List Rule) → Refuses rs → Exact (first rs) rs
exact rs p = record { refused = λ k. (given_first k rs, first_given (suc k) rs); done = (done_none rs p, none_done rs) }

-- the same where the number is known to be the first rule's
pub exact_is : {n : ℕ} (rs : List Rule) → Refuses rs → n ≡ first rs → Exact n rs
exact_is rs p e = rw e (exact rs p)

-- ---- lists of rules
-- no number of the list is k
abbrev pub Apart : ℕ → List Rule → Type 0
Apart k [] = Unit {0}
Apart k (r ∷ rs) = (r.number ≡ k → ⊥) × Apart k rs

pub first_apart : (k : ℕ) (rs : List Rule) → 0 < k → Apart k rs → first rs ≡ k → ⊥
first_apart k [] h p e = omega arith
first_apart k (r ∷ rs) h p e = by r.condition (first_apart k rs h p.1) e
  where
    by : (b : Bool) → (first rs ≡ k → ⊥) → or_else b r.number (first rs) ≡ k → ⊥
    by true rest = p.0
    by false rest = rest

-- where the number that the last rule alone has is given, that rule holds and none before it does
pub last_given : (k : ℕ) (rs : List Rule) (b : Bool) → 0 < k → Apart k rs → first (rs ++ (rule b k ∷ [])) ≡ k → None rs × (b ≡ true)
last_given k [] true h p e = (tt, refl)
last_given k [] false h p e = absurd (omega arith)
last_given k (r ∷ rs) b h p e = by r.condition e (last_given k rs b h p.1)
  where
    by : (c : Bool) → or_else c r.number (first (rs ++ (rule b k ∷ []))) ≡ k → (first (rs ++ (rule b k ∷ [])) ≡ k → None rs × (b ≡ true)) → ((c ≡ false) × None rs) × (b ≡ true)
    by true g rest = absurd (p.0 g)
    by false g rest = let w = rest g in ((refl, w.0), w.1)

pub none_front : (rs qs : List Rule) → None (rs ++ qs) → None rs
none_front [] qs h = tt
none_front (r ∷ rs) qs h = (h.0, none_front rs qs h.1)

pub none_both : (rs qs : List Rule) → None rs → None qs → None (rs ++ qs)
none_both [] qs h l = l
none_both (r ∷ rs) qs h l = (h.0, none_both rs qs h.1 l)

-- ---- the outcome by the number
-- of two lists in a row the second is asked where the first is done
pub first_append : (qs rs : List Rule) → Refuses qs → first (qs ++ rs) ≡ if_done (first qs) (first rs) (first qs)
first_append [] rs p = refl
first_append (q ∷ qs) rs p = by q.condition q.number p.0 (first_append qs rs p.1)
  where
    by : (b : Bool) (n : ℕ) → 0 < n → first (qs ++ rs) ≡ if_done (first qs) (first rs) (first qs)
        → or_else b n (first (qs ++ rs)) ≡ if_done (or_else b n (first qs)) (first rs) (or_else b n (first qs))
    by true zero h e = absurd (omega arith)
    by true (suc n) h e = refl
    by false n h e = e

-- so is the number of what is worked out in that order: the work, which may end in a refusal of its own, where no rule of the first list holds
pub number_in_order : {A : Type 0} (number : A → ℕ) (qs rs : List Rule) (work refusal : A) → Refuses qs → number refusal ≡ first qs → number work ≡ first rs
    → number (if_done (first qs) work refusal) ≡ first (qs ++ rs)
number_in_order number qs rs work refusal p own last = go (first qs) own ∙ sym (first_append qs rs p)
  where
    go : (n : ℕ) → number refusal ≡ n → number (if_done n work refusal) ≡ if_done n (first rs) n
    go zero e = last
    go (suc n) e = e

pub is_done : {A : Type 0} (n : ℕ) (new old : A) → n ≡ 0 → if_done n new old ≡ new
is_done n new old e = rw e refl

pub not_done : {A : Type 0} (n : ℕ) (new old : A) → (n ≡ 0 → ⊥) → if_done n new old ≡ old
not_done zero new old h = absurd (h refl)
not_done (suc n) new old h = refl

-- what is done counts only where the call is done
pub when_done : {A : Type 0} (n : ℕ) (new same old : A) → (n ≡ 0 → new ≡ same) → if_done n new old ≡ if_done n same old
when_done zero new same old h = h refl
when_done (suc n) new same old h = refl
