-- The plan of a group, made from lengths alone, is what the offset bytes of its blocks say: wrapped or unwrapped, from any states.
use Prim.Native.Nat.{ℕ, ◌-◌, ◌≤◌, ◌<◌}
use mathlib.Core.Path.{◌≡◌, refl, ◌∙◌}
use mathlib.Core.Bool.{Bool}
use mathlib.Core.List.{List, [], ◌∷◌, map}
use native.Mathlib.Omega.{arith}
use lib.ListN.{length, take, drop, length-drop}
use Rattle.motorist.specs.Instance.{Instance, Sound, text_rate, full_rate}
use Rattle.motorist.specs.Piston.{Bytes, block, plain, offsets_of, offsets_for}
use Rattle.motorist.specs.Engine.{States, first_piston, Round, text_after, meta_after, goes_on, inject_start, text_fit, meta_fit, deal, round, plan, fill, absorbs, ride, group}
use Rattle.motorist.specs.Shape.{Fit}
use Rattle.motorist.proofs.Plans.{Behind, behind, behind_less, inject_le, deal_fit, text_after_length, meta_after_length, Planned, last, more, planned}
use Rattle.motorist.proofs.Blocks.{eom_back, crypt_end_back, inject_start_back, inject_end_back}

module _ (i : Instance) (ok : Sound i) where
  block-offsets : (at : ℕ) (t : Bytes) (from : ℕ) (m : Bytes) (e : ℕ) → Fit i at (length t) from (length m)
      → offsets_of i (block i at t from m e) ≡ offsets_for (record { at = at; text = length t; from = from; meta = length m; eom = e })
  block-offsets at t from m e fit =
      λ j. crypt_end_back i ok at t from m e fit j ∷ inject_start_back i ok at t from m e fit j ∷ inject_end_back i ok at t from m e fit j ∷ eom_back i ok at t from m e fit j ∷ []

  deal-offsets : (decrypt : Bool) (from at t m : ℕ) (es : List ℕ) (ss : States) (text meta : Bytes) → at < text_rate i → from ≤ full_rate i → Behind i from t
      → length text ≡ t → length meta ≡ m → map (offsets_of i) (fill i decrypt (deal i from at t m es) ss text meta) ≡ map offsets_for (deal i from at t m es)
  deal-offsets decrypt from at t m [] ss text meta ha hf hb ht hm = refl
  deal-offsets decrypt from at t m (e ∷ es) ss text meta ha hf hb ht hm =
      let a : ℕ = text_fit i at t in
      let b : ℕ = meta_fit i from m in
      let x : Bytes = plain decrypt (first_piston ss) at (take a text) in
      let d = deal_fit i ok decrypt (first_piston ss) from at t m text meta ha hf hb ht hm in
      let p = rw (d.text, d.meta) at (block-offsets at x from (take b meta) e d.fit) in
      let ih = deal-offsets decrypt from 0 (t - a) (m - b) es (drop 1 ss) (drop a text) (drop b meta) (omega (arith, ok.tag_fits)) hf (behind_less i from t a hb) (rw (length-drop, ht)) (rw (length-drop, hm)) in
      λ j. p j ∷ ih j

  round-offsets : (decrypt : Bool) (at t m : ℕ) (es : List ℕ) (ss : States) (text meta : Bytes) → at < text_rate i → length text ≡ t → length meta ≡ m
      → map (offsets_of i) (fill i decrypt (round i at t m es) ss text meta) ≡ map offsets_for (round i at t m es)
  unfolding round
  round-offsets decrypt at t m es ss text meta ha ht hm = deal-offsets decrypt (inject_start i t) at t m es ss text meta ha (inject_le i ok t) (behind i t) ht hm

  ride-offsets : (f : Bytes → Bytes) (decrypt : Bool) {es : List ℕ} {at t m : ℕ} {rs : List Round} → Planned i es at t m rs → (ss : States) (text meta : Bytes)
      → length text ≡ t → length meta ≡ m → map (map (offsets_of i)) (ride i f decrypt rs ss text meta).blocks ≡ map (map offsets_for) rs
  ride-offsets f decrypt {es} (last {at = at} {t = t} {m = m} h p q) ss text meta ht hm = λ j. round-offsets decrypt at t m es ss text meta h ht hm j ∷ []
  ride-offsets f decrypt {es} (more {at = at} {t = t} {m = m} h g ps) ss text meta ht hm =
      let r : Round = round i at t m (goes_on es) in
      let ih = ride-offsets f decrypt ps (absorbs i f ss (fill i decrypt r ss text meta)) (text_after r text) (meta_after r meta) (text_after_length r text ∙ rw ht) (meta_after_length r meta ∙ rw hm) in
      λ j. round-offsets decrypt at t m (goes_on es) ss text meta h ht hm j ∷ ih j

  pub plan-offsets : (f : Bytes → Bytes) (decrypt : Bool) (ss : States) (at : ℕ) (t m : Bytes) (e : ℕ) (es : List ℕ) → at < text_rate i
      → map (map (offsets_of i)) (group i f decrypt ss at t m (e ∷ es)).blocks ≡ map (map offsets_for) (plan i at (length t) (length m) (e ∷ es))
  plan-offsets f decrypt ss at t m e es ha = ride-offsets f decrypt (planned i ok e es at (length t) (length m) ha) ss t m refl refl
