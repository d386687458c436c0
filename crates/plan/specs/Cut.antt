-- How far the next block goes, from the two rates and what is done: the text rate rs, the full rate ra; `text` of t bytes of text
-- and `meta` of m of metadata are done. At an instance's rates these are its text_fit, inject_start and meta_fit.
use Rattle.std.specs.Prelude.{◌≡◌, Bool, true, false, ℕ, zero, suc, ◌+◌, ◌-◌, ◌%◌, ◌≤◌, ◌<◌, min, [], ◌∷◌}
use Rattle.motorist.specs.Instance.{Instance, text_rate, full_rate}
use Rattle.motorist.specs.Piston.{Bytes, crypt_end, plain, block, absorb}
use Rattle.plan.specs.declared.Cut.{Cut}
use Rattle.rates.specs.Counts.{counted}

-- metadata starts at the text rate beside text, else at 0
abbrev pub from_by : ℕ → ℕ → ℕ
from_by rs zero = 0
from_by rs (suc left) = rs

abbrev pub cut_by : (rs ra at text t meta m : ℕ) → Cut
cut_by rs ra at text t meta m =
    record {
      at = counted at;
      text = counted text;
      textend = counted (text + min (rs - at) (t - text));
      from = counted (from_by rs (t - text));
      meta = counted meta;
      metaend = counted (meta + min (ra - from_by rs (t - text)) (m - meta));
    }

-- a cut that has room: its stretches lie in t bytes of text, d of output and m of metadata; in the block the text ends at the text rate
-- and the metadata, which starts behind the text, at the full rate at the latest; and both begin with a lane of w bytes
pub record Fits (i : Instance) (w t m d : ℕ) (k : Cut) : Type 0 where
  pub text_order : k.text.0 ≤ k.textend.0
  pub in_text : k.textend.0 ≤ t
  pub in_out : k.textend.0 ≤ d
  pub meta_order : k.meta.0 ≤ k.metaend.0
  pub in_meta : k.metaend.0 ≤ m
  pub text_inside : k.at.0 + (k.textend.0 - k.text.0) ≤ text_rate i
  pub text_fits_lem : crypt_end k.at.0 (k.textend.0 - k.text.0) ≤ k.from.0
  pub meta_inside : k.from.0 + (k.metaend.0 - k.meta.0) ≤ full_rate i
  pub text_lane : k.at.0 % w ≡ 0
  pub meta_lane : k.from.0 % w ≡ 0

-- the state s after the block with the text t from `at` on, to be decrypted or not, the metadata m from `from` on and the EOM e
abbrev pub stepped : Instance → (Bytes → Bytes) → Bool → Bytes → ℕ → Bytes → ℕ → Bytes → ℕ → Bytes
stepped i f decrypt s at t from m e = absorb f s (block i at (plain decrypt s at t) from m e)

-- the EOM of a block in a group that ends with e, where more blocks follow it or not
abbrev pub eom_at : Bool → ℕ → ℕ
eom_at true e = 0
eom_at false e = e

-- the four offset bytes of the block of a cut, the EOM first as they stand there; each is a byte
abbrev pub offset_bytes : Cut → ℕ → Bytes
offset_bytes k e = e ∷ crypt_end k.at.0 (k.textend.0 - k.text.0) ∷ k.from.0 ∷ (k.from.0 + (k.metaend.0 - k.meta.0)) ∷ []

pub record Bytewise (k : Cut) : Type 0 where
  pub text_order : k.text.0 ≤ k.textend.0
  pub meta_order : k.meta.0 ≤ k.metaend.0
  pub text_byte : k.at.0 + (k.textend.0 - k.text.0) < 256
  pub meta_byte : k.from.0 + (k.metaend.0 - k.meta.0) < 256
