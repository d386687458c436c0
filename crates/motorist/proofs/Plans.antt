-- The laws of rounds and plans: what a round takes fits its blocks, what it leaves is less, and a plan is its first round and the plan of what that leaves.
-- `Planned` and `Injected` are what the other laws go by, so that the bounds on recursion in the definitions are met here alone.
use Rattle.motorist.specs.Shape.{Fit}
use Prim.Native.Nat.{ℕ, zero, suc, ◌+◌, ◌-◌, ◌≤◌, ◌<◌, min}
use mathlib.Core.Path.{◌≡◌, refl, ap, ◌∙◌}
use mathlib.Core.Bool.{Bool, true, false}
use mathlib.Core.Logic.{◌⊎◌, inl, inr}
use mathlib.Core.List.{List, [], ◌∷◌, map}
use native.Mathlib.Omega.{arith}
use native.Mathlib.Nat.{min-zero}
use lib.ListN.{length, take, drop, length-drop, length-map}
use lib.Seq.{length-take-le}
use Rattle.motorist.specs.Instance.{Instance, Sound, text_rate, full_rate, chain_length}
use Rattle.motorist.specs.Piston.{Bytes, crypt_end, eom, plain}
use Rattle.motorist.specs.Motorist.{taken}
use Rattle.motorist.specs.Engine.{Blocks, Round, text_left, meta_left, text_after, meta_after, none_left, goes_on, inject_start, text_fit, meta_fit, deal, round, plan_to, plan, each, inject_to, inject_collective}
use Rattle.motorist.proofs.Xors.{length-plain}

-- a chaining value is never empty, so its EOM is its length
eom_some : (n : ℕ) → 0 < n → eom n ≡ n
eom_some zero h = absurd (omega arith)
eom_some (suc n) h = refl

pub eom_chain : (i : Instance) → Sound i → eom (chain_length i) ≡ chain_length i
eom_chain i ok = eom_some (chain_length i) (omega (arith, ok.chain_long))

pub goes_on_length : (es : List ℕ) → length (goes_on es) ≡ length es
goes_on_length es = length-map {B = ℕ} es (λ x. 0)

-- ---- what is left
-- nothing is left, or something is
abbrev pub NoneOrSome : ℕ → ℕ → Type 0
NoneOrSome t m = ((none_left t m ≡ true) × (t ≡ 0) × (m ≡ 0)) ⊎ ((none_left t m ≡ false) × (0 < t + m))

pub none_or_some : (t m : ℕ) → NoneOrSome t m
none_or_some zero zero = inl (refl, refl, refl)
none_or_some zero (suc m) = inr (refl, omega arith)
none_or_some (suc t) m = inr (refl, omega arith)

text_left_le : (r : Round) (t : ℕ) → text_left r t ≤ t
text_left_le [] t = omega arith
text_left_le (p ∷ ps) t = omega (arith, text_left_le ps (t - p.text))

meta_left_le : (r : Round) (m : ℕ) → meta_left r m ≤ m
meta_left_le [] m = omega arith
meta_left_le (p ∷ ps) m = omega (arith, meta_left_le ps (m - p.meta))

pub text_after_length : (r : Round) (t : Bytes) → length (text_after r t) ≡ text_left r (length t)
text_after_length [] t = refl
text_after_length (p ∷ ps) t = text_after_length ps (drop p.text t) ∙ rw length-drop

pub meta_after_length : (r : Round) (m : Bytes) → length (meta_after r m) ≡ meta_left r (length m)
meta_after_length [] m = refl
meta_after_length (p ∷ ps) m = meta_after_length ps (drop p.meta m) ∙ rw length-drop

-- ---- what is taken
crypt_le : (at x r : ℕ) → at + x ≤ r → crypt_end at x ≤ r
crypt_le at zero r h = omega arith
crypt_le at (suc x) r h = h

-- x from `at` on and y from `from` on are what a block is dealt: a bytes and b, which have room in it
pub record Dealt (i : Instance) (at a from b : ℕ) (x y : Bytes) : Type 0 where
  pub text : length x ≡ a
  pub meta : length y ≡ b
  pub fit : Fit i at (length x) from (length y)

-- metadata starts behind the text rate wherever there is text
pub Behind : Instance → ℕ → ℕ → Type 0
Behind i from t = (t ≡ 0) ⊎ (from ≡ text_rate i)

module _ (i : Instance) where
  pub behind : (t : ℕ) → Behind i (inject_start i t) t
  unfolding Behind
  behind zero = inl refl
  behind (suc t) = inr refl

  pub behind_less : (from t x : ℕ) → Behind i from t → Behind i from (t - x)
  unfolding Behind
  behind_less from t x (inl p) = inl (omega arith)
  behind_less from t x (inr p) = inr p

  -- the EOMs do not change what is left
  deal_left : (from at t m t₀ m₀ : ℕ) (es : List ℕ)
      → (text_left (deal i from at t m es) t₀ ≡ text_left (deal i from at t m (goes_on es)) t₀) × (meta_left (deal i from at t m es) m₀ ≡ meta_left (deal i from at t m (goes_on es)) m₀)
  deal_left from at t m t₀ m₀ [] = (refl, refl)
  deal_left from at t m t₀ m₀ (e ∷ es) =
      let x : ℕ = min (text_rate i - at) t in
      let y : ℕ = min (full_rate i - from) m in
      deal_left from 0 (t - x) (m - y) (t₀ - x) (m₀ - y) es

  -- what the first round leaves of t bytes of text and m of metadata
  abbrev pub left_text : ℕ → ℕ → ℕ → List ℕ → ℕ
  left_text at t m es = text_left (round i at t m (goes_on es)) t

  abbrev pub left_meta : ℕ → ℕ → ℕ → List ℕ → ℕ
  left_meta at t m es = meta_left (round i at t m (goes_on es)) m

  pub round_left : (at t m : ℕ) (es : List ℕ) → (text_left (round i at t m es) t ≡ left_text at t m es) × (meta_left (round i at t m es) m ≡ left_meta at t m es)
  unfolding round
  round_left at t m es = deal_left (inject_start i t) at t m t m es

  module _ (ok : Sound i) where
    pub inject_le : (t : ℕ) → inject_start i t ≤ full_rate i
    inject_le zero = omega arith
    inject_le (suc t) = ok.text_fits

    pub deal_fits : (from at t m : ℕ) → at < text_rate i → from ≤ full_rate i → Behind i from t → Fit i at (min (text_rate i - at) t) from (min (full_rate i - from) m)
    unfolding Behind
    deal_fits from at t m ha hf (inl p) = record { text_room = omega arith; text_fits = rw (p, min-zero) (omega arith); meta_fits = omega arith }
    deal_fits from at t m ha hf (inr p) =
        record { text_room = omega arith; text_fits = crypt_le at (min (text_rate i - at) t) from (omega arith); meta_fits = omega arith }

    -- the plaintext and the metadata of the first block that is dealt
    pub deal_fit : (decrypt : Bool) (s : Bytes) (from at t m : ℕ) (text meta : Bytes) → at < text_rate i → from ≤ full_rate i → Behind i from t → length text ≡ t → length meta ≡ m
        → Dealt i at (text_fit i at t) from (meta_fit i from m) (plain decrypt s at (take (text_fit i at t) text)) (take (meta_fit i from m) meta)
    deal_fit decrypt s from at t m text meta ha hf hb ht hm =
        let lx : length (plain decrypt s at (take (text_fit i at t) text)) ≡ text_fit i at t
        = length-plain decrypt s at (take (text_fit i at t) text) ∙ length-take-le (text_fit i at t) text (omega arith) in
        let ly : length (take (meta_fit i from m) meta) ≡ meta_fit i from m = length-take-le (meta_fit i from m) meta (omega arith) in
        record { text = lx; meta = ly; fit = rw (lx, ly) (deal_fits from at t m ha hf hb) }

    -- a round leaves less, so that a loop over rounds ends
    pub left_less : (at t m e : ℕ) (es : List ℕ) → at < text_rate i → 0 < left_text at t m (e ∷ es) + left_meta at t m (e ∷ es)
        → left_text at t m (e ∷ es) + left_meta at t m (e ∷ es) < t + m
    unfolding round
    left_less at zero m e es ha h =
        let x : ℕ = min (text_rate i - at) 0 in
        let y : ℕ = min (full_rate i - 0) m in
        let r : Round = deal i 0 0 (0 - x) (m - y) (goes_on es) in
        omega (arith, text_left_le r (0 - x), meta_left_le r (m - y), ok.tag_fits, ok.text_fits)
    left_less at (suc t) m e es ha h =
        let x : ℕ = min (text_rate i - at) (suc t) in
        let y : ℕ = min (full_rate i - text_rate i) m in
        let r : Round = deal i (text_rate i) 0 (suc t - x) (m - y) (goes_on es) in
        omega (arith, text_left_le r (suc t - x), meta_left_le r (m - y))

-- metadata alone, of no more than the full rate
pub alone_fits : (i : Instance) (m : ℕ) → m ≤ full_rate i → Fit i 0 0 0 m
alone_fits i m h = record { text_room = omega arith; text_fits = omega arith; meta_fits = omega arith }

-- text that follows a start or a message has room
pub taken_fits : (i : Instance) → Sound i → (b : Bool) → taken b < text_rate i
taken_fits i ok true = ok.tag_fits
taken_fits i ok false = omega (arith, ok.tag_fits)

-- ---- plans
-- rs are the rounds of t bytes of text, the first from `at` on, and m of metadata, that end with the EOMs es
pub data Planned (i : Instance) (es : List ℕ) : ℕ → ℕ → ℕ → List Round → Type 0 where
  last : {at t m : ℕ} → at < text_rate i → left_text i at t m es ≡ 0 → left_meta i at t m es ≡ 0 → Planned i es at t m (round i at t m es ∷ [])
  more : {at t m : ℕ} {rs : List Round} → at < text_rate i → 0 < left_text i at t m es + left_meta i at t m es
      → Planned i es 0 (left_text i at t m es) (left_meta i at t m es) rs → Planned i es at t m (round i at t m (goes_on es) ∷ rs)

module _ (i : Instance) (ok : Sound i) (e : ℕ) (es : List ℕ) where
  planned_to : (n at t m : ℕ) → at < text_rate i → t + m ≤ n → Planned i (e ∷ es) at t m (plan_to i n at t m (e ∷ es))
  planned_to zero at t m ha hn =
      let p : left_text i at t m (e ∷ es) ≡ 0 = omega (arith, text_left_le (round i at t m (goes_on (e ∷ es))) t) in
      let q : left_meta i at t m (e ∷ es) ≡ 0 = omega (arith, meta_left_le (round i at t m (goes_on (e ∷ es))) m) in
      last ha p q
  planned_to (suc n) at t m ha hn = go (none_or_some t' m') (planned_to n 0 t' m' (omega (arith, ok.tag_fits)))
    where
      t' : ℕ
      t' = left_text i at t m (e ∷ es)

      m' : ℕ
      m' = left_meta i at t m (e ∷ es)

      go : NoneOrSome t' m' → (t' + m' ≤ n → Planned i (e ∷ es) 0 t' m' (plan_to i n 0 t' m' (e ∷ es))) → Planned i (e ∷ es) at t m (plan_to i (suc n) at t m (e ∷ es))
      go (inl p) ih = rw (p.0, plan_to) (last ha p.1 p.2)
      go (inr p) ih = rw (p.0, plan_to) (more ha p.1 (ih (omega (arith, left_less i ok at t m e es ha p.1))))

  pub planned : (at t m : ℕ) → at < text_rate i → Planned i (e ∷ es) at t m (plan i at t m (e ∷ es))
  unfolding plan
  planned at t m ha = planned_to (t + m) at t m ha (omega arith)

-- one plan alone
only : {i : Instance} {es : List ℕ} {at t m : ℕ} {rs qs : List Round} → Planned i es at t m rs → Planned i es at t m qs → rs ≡ qs
only (last h p q) (last h' p' q') = refl
only (last h p q) (more h' g' ps) = absurd (omega arith)
only (more h g rs) (last h' p q) = absurd (omega arith)
only {i} {es} (more {at = at} {t = t} {m = m} h g rs) (more h' g' qs) = ap {B = List Round} (λ x. round i at t m (goes_on es) ∷ x) (only rs qs)

-- a plan is its last round, or its first and the plan of what that leaves
module _ (i : Instance) (ok : Sound i) (e : ℕ) (es : List ℕ) (at t m : ℕ) (ha : at < text_rate i) where
  pub plan_last : left_text i at t m (e ∷ es) ≡ 0 → left_meta i at t m (e ∷ es) ≡ 0 → plan i at t m (e ∷ es) ≡ round i at t m (e ∷ es) ∷ []
  plan_last p q = only (planned i ok e es at t m ha) (last ha p q)

  pub plan_more : 0 < left_text i at t m (e ∷ es) + left_meta i at t m (e ∷ es)
      → plan i at t m (e ∷ es) ≡ round i at t m (0 ∷ goes_on es) ∷ plan i 0 (left_text i at t m (e ∷ es)) (left_meta i at t m (e ∷ es)) (e ∷ es)
  plan_more h = only (planned i ok e es at t m ha) (more ha h (planned i ok e es 0 (left_text i at t m (e ∷ es)) (left_meta i at t m (e ∷ es)) (omega (arith, ok.tag_fits))))

-- ---- strings injected collectively
-- bs are the rounds of the strings m, for the first Piston, and ms, for the others, that end with the EOMs es
pub data Injected (i : Instance) (es : List ℕ) : Bytes → List Bytes → List Blocks → Type 0 where
  final : {m : Bytes} {ms : List Bytes} → length m ≤ full_rate i → Injected i es m ms (each i (m ∷ ms) es ∷ [])
  further : {m : Bytes} {ms : List Bytes} {bs : List Blocks} → full_rate i < length m → Injected i es (drop (full_rate i) m) (map (drop (full_rate i)) ms) bs
      → Injected i es m ms (each i (take (full_rate i) m ∷ map (take (full_rate i)) ms) (goes_on es) ∷ bs)

module _ (i : Instance) (ok : Sound i) (es : List ℕ) where
  injected_to : (n : ℕ) (m : Bytes) (ms : List Bytes) → length m ≤ n → Injected i es m ms (inject_to i n (m ∷ ms) es)
  injected_to zero m ms h = let g : length m ≤ full_rate i = omega arith in final g
  injected_to (suc n) m ms h = go (none_or_some 0 (length m - full_rate i)) (injected_to n (drop (full_rate i) m) (map (drop (full_rate i)) ms))
    where
      go : NoneOrSome 0 (length m - full_rate i)
          → (length (drop (full_rate i) m) ≤ n → Injected i es (drop (full_rate i) m) (map (drop (full_rate i)) ms) (inject_to i n (drop (full_rate i) m ∷ map (drop (full_rate i)) ms) es))
          → Injected i es m ms (inject_to i (suc n) (m ∷ ms) es)
      go (inl p) ih = let g : length m ≤ full_rate i = omega arith in rw (p.0, inject_to) (final g)
      go (inr p) ih =
          let g : full_rate i < length m = omega arith in
          rw (p.0, inject_to) (further g (ih (rw length-drop (omega (arith, ok.tag_fits, ok.text_fits)))))

  pub injected : (m : Bytes) (ms : List Bytes) → Injected i es m ms (inject_collective i (m ∷ ms) es)
  unfolding inject_collective
  injected m ms = injected_to (length m) m ms (omega arith)
