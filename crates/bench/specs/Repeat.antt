-- A step, done n times over.
use Rattle.std.specs.Prelude.{ℕ, zero, suc}

unfoldable pub repeated : {A : Type 0} → (A → A) → ℕ → A → A
repeated f zero s = s
repeated f (suc n) s = repeated f n (f s)
