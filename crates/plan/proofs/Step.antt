-- One block, put in part by part as the code does, over the states' bytes.
use mathlib.Core.Path.{◌≡◌, refl, sym, ap, ◌∙◌}
use mathlib.Core.Bool.{Bool}
use Prim.Native.Nat.{ℕ, ◌+◌, ◌-◌, ◌%◌, ◌≤◌}
use native.Mathlib.Omega.{arith}
use lib.ListN.{length, take, drop, length-drop}
use lib.Seq.{length-take-le}
use Rattle.motorist.specs.Instance.{Instance, Sound, full_rate}
use Rattle.motorist.specs.Piston.{Bytes, xors, plain}
use Rattle.motorist.proofs.Xors.{length-plain}
use Rattle.piston.specs.Placed.{placed}
use Rattle.piston.proofs.Block.{block_parts}
use Rattle.plan.specs.Cut.{Fits, Bytewise, stepped, offset_bytes}
use Rattle.plan.specs.declared.Cut.{Cut}

part_length : (l : Bytes) (a z : ℕ) → a ≤ z → z ≤ length l → length (take (z - a) (drop a l)) ≡ z - a
part_length l a z h g = length-take-le (z - a) (drop a l) (rw length-drop (omega arith))

-- the state s with the plaintext in, then the metadata and the offset bytes, and permuted
pub step : (i : Instance) (f : Bytes → Bytes) (decrypt : Bool) (w d : ℕ) (k : Cut) (s t m : Bytes) (e : ℕ) → Fits i w (length t) (length m) d k
    → (sa sr : Bytes)
    → sa ≡ xors s (placed k.at.0 (plain decrypt s k.at.0 (take (k.textend.0 - k.text.0) (drop k.text.0 t))))
    → sr ≡ f (xors (xors sa (placed k.from.0 (take (k.metaend.0 - k.meta.0) (drop k.meta.0 m)))) (placed (full_rate i) (offset_bytes k e)))
    → sr ≡ stepped i f decrypt s k.at.0 (take (k.textend.0 - k.text.0) (drop k.text.0 t)) k.from.0 (take (k.metaend.0 - k.meta.0) (drop k.meta.0 m)) e
step i f decrypt w d k s t m e fits sa sr ea er =
    let x : Bytes = take (k.textend.0 - k.text.0) (drop k.text.0 t) in
    let y : Bytes = take (k.metaend.0 - k.meta.0) (drop k.meta.0 m) in
    let p : Bytes = plain decrypt s k.at.0 x in
    let lx : length x ≡ k.textend.0 - k.text.0 = part_length t k.text.0 k.textend.0 fits.text_order fits.in_text in
    let ly : length y ≡ k.metaend.0 - k.meta.0 = part_length m k.meta.0 k.metaend.0 fits.meta_order fits.in_meta in
    let lp : length p ≡ k.textend.0 - k.text.0 = length-plain decrypt s k.at.0 x ∙ lx in
    let b = block_parts i s k.at.0 p k.from.0 y e (rw lp fits.text_fits_lem) (rw ly fits.meta_inside) in
    er ∙ ap f (rw ea refl ∙ sym (rw (lp, ly) at b))

-- ---- what a cut with room gives the parts of a block: B bytes of state hold the full rate and the four offset bytes
module _ {i : Instance} {w : ℕ} (t m d : Bytes) {k : Cut} (fits : Fits i w (length t) (length m) (length d) k) (ok : Sound i) (B : ℕ) (room : full_rate i + 4 ≤ B) where
  pub crypt_room : (k.at.0 % w ≡ 0) × (k.at.0 + length (take (k.textend.0 - k.text.0) (drop k.text.0 t)) ≤ B)
      × (length (take (k.textend.0 - k.text.0) (drop k.text.0 d)) ≡ length (take (k.textend.0 - k.text.0) (drop k.text.0 t)))
  crypt_room =
      let lt : length (take (k.textend.0 - k.text.0) (drop k.text.0 t)) ≡ k.textend.0 - k.text.0 = part_length t k.text.0 k.textend.0 fits.text_order fits.in_text in
      let ld : length (take (k.textend.0 - k.text.0) (drop k.text.0 d)) ≡ k.textend.0 - k.text.0 = part_length d k.text.0 k.textend.0 fits.text_order fits.in_out in
      (fits.text_lane, rw lt (omega (arith, fits.text_inside, ok.text_fits)), ld ∙ sym lt)

  pub inject_room : (k.from.0 % w ≡ 0) × (k.from.0 + length (take (k.metaend.0 - k.meta.0) (drop k.meta.0 m)) ≤ B)
  inject_room =
      let lm : length (take (k.metaend.0 - k.meta.0) (drop k.meta.0 m)) ≡ k.metaend.0 - k.meta.0 = part_length m k.meta.0 k.metaend.0 fits.meta_order fits.in_meta in
      (fits.meta_lane, rw lm (omega (arith, fits.meta_inside)))

  pub bytewise : Bytewise k
  bytewise =
      record {
        text_order = fits.text_order;
        meta_order = fits.meta_order;
        text_byte = omega (arith, fits.text_inside, ok.text_fits, ok.offsets_small);
        meta_byte = omega (arith, fits.meta_inside, ok.offsets_small);
      }
