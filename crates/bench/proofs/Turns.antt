-- A loop that repeats a step: i of n turns are done and s is what they left; the turns that are left come to what all of them come to.
use mathlib.Core.Path.{◌≡◌, refl, ap, ◌∙◌}
use Prim.Native.Nat.{ℕ, suc, ◌+◌, ◌-◌, ◌≤◌, ◌<◌}
use native.Mathlib.Nat.{sub-zero}
use native.Mathlib.Omega.{arith}
use Rattle.bench.specs.Repeat.{repeated}

module _ {A : Type 0} (f : A → A) (n : ℕ) (s₀ : A) where
  pub record Turned (i : ℕ) (s : A) : Type 0 where
    pub upto : i ≤ n
    pub rest : repeated f (n - i) s ≡ repeated f n s₀

  pub turned_none : Turned 0 s₀
  turned_none = record { upto = omega arith; rest = rw sub-zero refl }

  module _ (i : ℕ) {s : A} (turned : Turned i s) where
    pub turned_more : (t : A) → i < n → t ≡ f s → Turned (i + 1) t
    unfolding repeated
    turned_more t h e =
        let m : n - i ≡ suc (n - (i + 1)) = omega arith in
        record { upto = omega arith; rest = ap (repeated f (n - (i + 1))) e ∙ (rw m at turned.rest) }

    pub turned_all : n ≤ i → s ≡ repeated f n s₀
    unfolding repeated
    turned_all h = let m : n - i ≡ 0 = omega arith in rw m at turned.rest
