-- A block put in part by part, text, metadata and offset bytes each at its place, is the block put in at once.
use mathlib.Core.Path.{◌≡◌, sym, ap, ◌∙◌}
use mathlib.Core.List.{[], ◌∷◌, ◌++◌}
use Prim.Native.Nat.{ℕ, ◌+◌, ◌-◌, ◌≤◌}
use native.Mathlib.Nat.{add-zero}
use lib.ListN.{length, length-append}
use Rattle.motorist.specs.Instance.{Instance, state_length, full_rate}
use Rattle.motorist.specs.Piston.{Bytes, xors, pad, laid, crypt_end, block}
use Rattle.motorist.proofs.KeyPack.{length_pad}
use Rattle.motorist.proofs.Front.{length-laid}
use Rattle.piston.specs.Placed.{placed}
use Rattle.piston.proofs.Xors.{xors_end, xors_behind, xors-laid}

-- behind a run that is padded to n bytes
behind_pad : (s a : Bytes) (n : ℕ) (b : Bytes) → length a ≤ n → xors s (pad n a ++ b) ≡ xors (xors s a) (placed n b)
behind_pad s a n b h =
    let e : length (pad n a) + 0 ≡ n = add-zero (length (pad n a)) ∙ length_pad n a h in
    sym (rw e at (xors_behind s (pad n a) 0 b)) ∙ ap (λ (z : Bytes). xors z (placed n b)) (xors_end s a (n - length a))

pub block_parts : (i : Instance) (s : Bytes) (at : ℕ) (t : Bytes) (from : ℕ) (m : Bytes) (e : ℕ)
    → crypt_end at (length t) ≤ from → from + length m ≤ full_rate i
    → xors s (block i at t from m e)
    ≡ xors (xors (xors s (placed at t)) (placed from m)) (placed (full_rate i) (e ∷ crypt_end at (length t) ∷ from ∷ (from + length m) ∷ []))
unfolding block
block_parts i s at t from m e ht hm =
    let o : Bytes = e ∷ crypt_end at (length t) ∷ from ∷ (from + length m) ∷ [] in
    let x : Bytes = laid at t in
    let hx : length x ≤ from = rw (length-laid at t) ht in
    let y : Bytes = pad from x ++ m in
    let hy : length y ≤ full_rate i = rw (length-append (pad from x) m, length_pad from x hx) hm in
    let z : Bytes = pad (full_rate i) y ++ o in
    xors_end s z (state_length i - length z) ∙ behind_pad s y (full_rate i) o hy
    ∙ ap (λ (u : Bytes). xors u (placed (full_rate i) o)) (behind_pad s x from m hx ∙ ap (λ (u : Bytes). xors u (placed from m)) (xors-laid s at t))
