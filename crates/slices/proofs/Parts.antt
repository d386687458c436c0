-- Parts of a list: one that was lent and came back, the front, one copied, one more element done.
use mathlib.Core.Path.{◌≡◌, refl, sym, ◌∙◌}
use mathlib.Core.List.{List, [], ◌∷◌, ◌++◌, append_assoc}
use Prim.Native.Nat.{ℕ, zero, suc, ◌+◌, ◌≤◌, ◌<◌}
use native.Mathlib.Numerals.{add-one}
use native.Mathlib.Omega.{arith}
use lib.ListN.{length, get_or, set, take, drop, length-append, length-drop}
use lib.Seq.{take_at, drop_at, take-suc, drop-cons, set_at, append_snoc, length-take-le, drop-drop}

module _ (xs : List ℕ) (a k : ℕ) (ys : List ℕ) (fits : a + k ≤ length xs) (is : length ys ≡ k) where
  head : length (take a xs ++ ys) ≡ a + k
  head = rw length-append (rw (length-take-le a xs (omega arith), is))

  pub take_back : take (a + k) (take a xs ++ (ys ++ drop k (drop a xs))) ≡ take a xs ++ ys
  take_back = rw (← append_assoc) (take_at (take a xs ++ ys) (drop k (drop a xs)) (a + k) head)

  pub drop_back : drop (a + k) (take a xs ++ (ys ++ drop k (drop a xs))) ≡ drop (a + k) xs
  drop_back = rw (← append_assoc) (drop_at (take a xs ++ ys) (drop k (drop a xs)) (a + k) head ∙ drop-drop k a xs)

  pub length_back : length (take a xs ++ (ys ++ drop k (drop a xs))) ≡ length xs
  length_back = simp (length-append, length-take-le a xs (omega arith), length-drop, is) (omega arith)

-- what holds of every element, and of what stands for one past the end, holds of every element of the front
pub every_take : {A : Type 0} (P : A → Type 0) (z : A) → P z → (n : ℕ) (l : List A) → ((i : ℕ) → P (get_or l i z)) → (i : ℕ) → P (get_or (take n l) i z)
every_take P z p zero l h i = p
every_take P z p (suc n) [] h i = p
every_take P z p (suc n) (x ∷ l) h zero = h 0
every_take P z p (suc n) (x ∷ l) h (suc i) = every_take P z p n l (λ j. h (suc j)) i

-- a part that was lent at the end of what is done, and came back
pub grow : {A : Type 0} (done d ys : List A) (i k : ℕ) → length done ≡ i
    → take i (done ++ drop i d) ++ (ys ++ drop k (drop i (done ++ drop i d))) ≡ (done ++ ys) ++ drop (i + k) d
grow done d ys i k e = rw (take_at done (drop i d) i e, drop_at done (drop i d) i e, drop-drop k i d, ← append_assoc)

-- one element stored at the end of what is done
pub grow_one : {A : Type 0} (done d : List A) (i : ℕ) (v z : A) → length done ≡ i → i < length d
    → set (done ++ drop i d) i v ≡ (done ++ (v ∷ [])) ++ drop (i + 1) d
grow_one done d i v z e h =
    rw (add-one, drop-cons d i z h, set_at done (get_or d i z) (drop (suc i) d) v i e) (sym (append_snoc done v (drop (suc i) d)))

-- a copy, one element more
pub copy_more : {A : Type 0} (s d : List A) (i : ℕ) (z : A) → i < length s → i < length d
    → set (take i s ++ drop i d) i (get_or s i z) ≡ take (i + 1) s ++ drop (i + 1) d
copy_more s d i z h k =
    rw (grow_one (take i s) d i (get_or s i z) z (length-take-le i s (omega arith)) k, add-one, ← take-suc s i z h) refl
