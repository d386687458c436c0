-- A count of the code's, and what its rates are to be.
use Rattle.std.specs.Prelude.{◌≡◌, ℕ}
use Rattle.motorist.specs.Instance.{Instance, text_rate, full_rate, pack_length, chain_length, tag_len}
use Rattle.rates.specs.declared.byte_count.ByteCount.{ByteCount}
use Rattle.rates.specs.declared.Rates.{Rates}

-- n bytes
abbrev pub counted : ℕ → ByteCount
counted n = record { 0 = n }

-- the bytes of a chaining value, as the code's arrays have them
abbrev pub chain_bytes : ℕ
chain_bytes = 32

-- the rates r are those of the instance i
pub record RatesOf (i : Instance) (r : Rates) : Type 0 where
  pub text : r.text.0 ≡ text_rate i
  pub full : r.full.0 ≡ full_rate i
  pub pack : r.pack.0 ≡ pack_length i
  pub chain : r.chain.0 ≡ chain_length i
  pub tag : r.tag.0 ≡ tag_len
