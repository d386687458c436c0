-- What stays a string of bytes: parts, strings one after the other, zeros.
use mathlib.Core.List.{List, [], ◌∷◌, ◌++◌}
use Prim.Native.Nat.{ℕ, zero, suc, ◌+◌, ◌^◌, ◌<◌}
use native.Mathlib.Omega.{arith}
use lib.ListN.{take, drop, replicate}
use lib.Seq.{get_or-drop}
use Rattle.slices.proofs.Parts.{every_take}
use Rattle.endian.specs.Small.{Small}

pub small_nil : Small []
small_nil i = omega arith

pub small_cons : (x : ℕ) (s : List ℕ) → x < 2 ^ 8 → Small s → Small (x ∷ s)
small_cons x s hx hs zero = hx
small_cons x s hx hs (suc i) = hs i

pub small_append : (s t : List ℕ) → Small s → Small t → Small (s ++ t)
small_append [] t hs ht i = ht i
small_append (x ∷ s) t hs ht zero = hs 0
small_append (x ∷ s) t hs ht (suc i) = small_append s t (λ j. hs (suc j)) ht i

pub small_zeros : (n : ℕ) → Small (replicate n 0)
small_zeros zero = small_nil
small_zeros (suc n) = small_cons 0 (replicate n 0) (omega arith) (small_zeros n)

-- ---- parts
pub small_take : (n : ℕ) (s : List ℕ) → Small s → Small (take n s)
small_take = every_take (λ b. b < 2 ^ 8) 0 (omega arith)

pub small_drop : (n : ℕ) (s : List ℕ) → Small s → Small (drop n s)
small_drop n s h i = rw get_or-drop (h (n + i))

pub small_part : (a n : ℕ) (s : List ℕ) → Small s → Small (take n (drop a s))
small_part a n s h = small_take n (drop a s) (small_drop a s h)
