-- The laws of a block: every byte of it as 01 lists them, and its text and metadata read back. (Its length, and that its bytes are below 256: Front.antt.)
use Prim.Native.Nat.{ℕ, zero, suc, ◌+◌, ◌-◌, ◌≤◌, ◌<◌}
use mathlib.Core.Path.{◌≡◌, refl, sym, ap, ◌∙◌}
use mathlib.Core.List.{[], ◌∷◌, ◌++◌, append_assoc}
use mathlib.Core.Logic.{◌⊎◌, inl, inr}
use native.Mathlib.Omega.{arith}
use native.Mathlib.Nat.{add-zero}
use lib.ListN.{length, get_or, replicate, length-append, length-replicate, get_or-append, get_or-eq_default}
use lib.Seq.{slice, get_or-append-add, take_at, drop_at, drop-nil}
use Rattle.motorist.specs.Instance.{Instance, Sound, state_length, full_rate}
use Rattle.motorist.specs.Piston.{Bytes, pad, crypt_end, laid, block, eom_of, crypt_end_of, inject_start_of, inject_end_of, text_of, meta_of}
use Rattle.motorist.specs.Shape.{Fit}
use Rattle.motorist.proofs.Front.{before_meta, before_offsets, four, length_before, length_front}

-- ---- bytes of strings that are padded, laid and joined; behind its end a string has zeros
zeros_at : (n k : ℕ) → ◌≡◌ {A = ℕ} (get_or (replicate n 0) k 0) 0
zeros_at zero k = refl
zeros_at (suc n) zero = refl
zeros_at (suc n) (suc k) = zeros_at n k

pad_at : (n : ℕ) (l : Bytes) (k : ℕ) → get_or (pad n l) k 0 ≡ get_or l k 0
pad_at n l k = go (n - length l) l k
  where
    go : (j : ℕ) (l : Bytes) (k : ℕ) → get_or (l ++ replicate j 0) k 0 ≡ get_or l k 0
    go j [] k = zeros_at j k
    go j (x ∷ l) zero = refl
    go j (x ∷ l) (suc k) = go j l k

behind_at : (p q : Bytes) (n k : ℕ) → length p ≡ n → get_or (p ++ q) (n + k) 0 ≡ get_or q k 0
behind_at p q n k e = rw (← e) (get_or-append-add p q k 0)

laid_before : (at : ℕ) (t : Bytes) (k : ℕ) → k < at → get_or (laid at t) k 0 ≡ 0
laid_before at [] k h = refl
laid_before at (x ∷ t) k h = get_or-append (replicate at 0) (x ∷ t) 0 k (rw length-replicate h) ∙ zeros_at at k

laid_text : (at : ℕ) (t : Bytes) (k : ℕ) → get_or (laid at t) (at + k) 0 ≡ get_or t k 0
laid_text at [] k = refl
laid_text at (x ∷ t) k = behind_at (replicate at 0) (x ∷ t) at k (length-replicate at 0)

-- ---- parts in the middle
slice_mid : (p m q : Bytes) (n k : ℕ) → length p ≡ n → length m ≡ k → slice n (n + k) (p ++ (m ++ q)) ≡ m
slice_mid p m q n k e h = rw (← append_assoc, take_at (p ++ m) q (n + k) (simp length-append (omega arith))) (drop_at p m n e)

slice_meta : (p m a b c : Bytes) (n : ℕ) → length p ≡ n → slice n (n + length m) ((((p ++ m) ++ a) ++ b) ++ c) ≡ m
slice_meta p m a b c n e = simp append_assoc (slice_mid p m _ n _ e refl)

slice_text : (p t a m b c d : Bytes) (n : ℕ) → length p ≡ n → slice n (n + length t) ((((((p ++ t) ++ a) ++ m) ++ b) ++ c) ++ d) ≡ t
slice_text p t a m b c d n e = simp append_assoc (slice_mid p t _ n _ e refl)

module _ (i : Instance) (ok : Sound i) (at : ℕ) (t : Bytes) (from : ℕ) (m : Bytes) (e : ℕ) (fit : Fit i at (length t) from (length m)) where
  abbrev offsets : Bytes
  offsets = four at t from m e

  abbrev before : Bytes
  before = before_meta at t from

  abbrev front : Bytes
  front = before_offsets i at t from m

  before_long : length before ≡ from
  before_long = length_before i ok at t from m e fit

  front_long : length front ≡ full_rate i
  front_long = length_front i ok at t from m e fit

  -- ---- every byte: the four offsets and zeros behind them, the metadata and zeros behind it, and before it the text between zeros
  pub block-offset : (k : ℕ) → get_or (block i at t from m e) (full_rate i + k) 0 ≡ get_or offsets k 0
  unfolding block
  block-offset k = pad_at (state_length i) (front ++ offsets) (full_rate i + k) ∙ behind_at front offsets (full_rate i) k front_long

  front_at : (k : ℕ) → k < full_rate i → get_or (block i at t from m e) k 0 ≡ get_or (before ++ m) k 0
  unfolding block
  front_at k h =
      pad_at (state_length i) (front ++ offsets) k
      ∙ get_or-append front offsets 0 k (rw front_long h)
      ∙ pad_at (full_rate i) (before ++ m) k

  pub block_meta : (k : ℕ) → from + k < full_rate i → get_or (block i at t from m e) (from + k) 0 ≡ get_or m k 0
  block_meta k h = front_at (from + k) h ∙ behind_at before m from k before_long

  before_at : (k : ℕ) → k < from → get_or (block i at t from m e) k 0 ≡ get_or (laid at t) k 0
  before_at k h = front_at k (omega (arith, fit.meta_fits)) ∙ get_or-append before m 0 k (rw before_long h) ∙ pad_at from (laid at t) k

  pub block_text : (k : ℕ) → at + k < from → get_or (block i at t from m e) (at + k) 0 ≡ get_or t k 0
  block_text k h = before_at (at + k) h ∙ laid_text at t k

  pub block_before : (k : ℕ) → k < at → k < from → get_or (block i at t from m e) k 0 ≡ 0
  block_before k h g = before_at k g ∙ laid_before at t k h

  -- all other bytes are zero: outside the text, outside the metadata, and outside the four offsets
  pub block-zero : (k : ℕ) → (k < at) ⊎ (at + length t ≤ k) → (k < from) ⊎ (from + length m ≤ k) → (k < full_rate i) ⊎ (full_rate i + 4 ≤ k)
      → get_or (block i at t from m e) k 0 ≡ 0
  block-zero k p q (inr h) =
      let x : full_rate i + (k - full_rate i) ≡ k = omega arith in
      let o : length offsets ≤ k - full_rate i = omega arith in
      rw x at (block-offset (k - full_rate i)) ∙ get_or-eq_default offsets 0 o
  block-zero k p (inr g) (inl h) =
      let x : from + (k - from) ≡ k = omega arith in
      let o : length m ≤ k - from = omega arith in
      rw x at (block_meta (k - from) (rw x h)) ∙ get_or-eq_default m 0 o
  block-zero k (inr f) (inl g) (inl h) =
      let x : at + (k - at) ≡ k = omega arith in
      let o : length t ≤ k - at = omega arith in
      rw x at (block_text (k - at) (rw x g)) ∙ get_or-eq_default t 0 o
  block-zero k (inl f) (inl g) (inl h) = block_before k f g

  -- ---- read back
  pub eom_back : eom_of i (block i at t from m e) ≡ e
  eom_back = ap (λ n. get_or (block i at t from m e) n 0) (sym (add-zero (full_rate i))) ∙ block-offset 0

  pub crypt_end_back : crypt_end_of i (block i at t from m e) ≡ crypt_end at (length t)
  crypt_end_back = block-offset 1

  pub inject_start_back : inject_start_of i (block i at t from m e) ≡ from
  inject_start_back = block-offset 2

  pub inject_end_back : inject_end_of i (block i at t from m e) ≡ from + length m
  inject_end_back = block-offset 3

  pub meta_back : meta_of i (block i at t from m e) ≡ m
  unfolding block
  meta_back = rw (inject_start_back, inject_end_back) (slice_meta before m _ _ _ from before_long)

pub text_back : (i : Instance) → Sound i → (at : ℕ) (t : Bytes) (from : ℕ) (m : Bytes) (e : ℕ) → Fit i at (length t) from (length m)
    → text_of i (block i at t from m e) at ≡ t
unfolding block
text_back i ok at [] from m e fit = rw (crypt_end_back i ok at [] from m e fit) (drop-nil at)
text_back i ok at (x ∷ t) from m e fit =
    rw (crypt_end_back i ok at (x ∷ t) from m e fit) (slice_text (replicate at 0) (x ∷ t) _ m _ _ _ at (length-replicate at 0))
