-- The bytes of what a start injects: how many, and one byte more of a stretch of them.
use mathlib.Core.Path.{◌≡◌, refl, ◌∙◌}
use mathlib.Core.List.{[], ◌∷◌, ◌++◌}
use Prim.Native.Nat.{ℕ, ◌+◌, ◌≤◌, ◌<◌}
use native.Mathlib.Omega.{arith}
use native.Mathlib.Numerals.{add-one}
use lib.ListN.{length, get_or, set, take, drop, length-append, length-drop}
use lib.Seq.{take-suc, get_or-drop, length-take-le}
use Rattle.motorist.specs.Piston.{Bytes}
use Rattle.motorist.specs.Motorist.{key_pack}
use Rattle.motorist.proofs.KeyPack.{length_pack}
use Rattle.slices.proofs.Parts.{grow_one}
use Rattle.plan.specs.Start.{start_bytes}

module _ (pack : ℕ) (key nonce : Bytes) (fits : length key + 2 ≤ pack) where
  suv-length : length (key_pack pack key ++ nonce) ≡ pack + length nonce
  suv-length = length-append (key_pack pack key) nonce ∙ rw (length_pack pack key fits) refl

  pub start_length : length (start_bytes pack key nonce) ≡ pack + length nonce + 2
  start_length = length-append (key_pack pack key ++ nonce) (1 ∷ 0 ∷ []) ∙ rw suv-length refl

-- one byte more of a stretch
pub stretch_more : (o d : Bytes) (from j v : ℕ) → from + j < length o → j < length d → v ≡ get_or o (from + j) 0
    → set (take j (drop from o) ++ drop j d) j v ≡ take (j + 1) (drop from o) ++ drop (j + 1) d
stretch_more o d from j v h g e =
    let l : j < length (drop from o) = rw length-drop (omega arith) in
    rw (grow_one (take j (drop from o)) d j v 0 (length-take-le j (drop from o) (omega arith)) g, e, ← get_or-drop from o j 0, add-one, ← take-suc (drop from o) j 0 l) refl
