-- The counts of bytes that follow from an instance's parameters, as 01's table has them, and the rule behind them.
use Rattle.std.specs.Prelude.{◌≡◌, ℕ, ◌+◌, ◌*◌, ◌≤◌}
use Rattle.motorist.specs.Instance.{Instance, state_length, text_rate, full_rate, chain_length, pack_length, tag_len}

-- ---- 01's table: width and lane in bits; text rate, full rate, key pack, chaining value, tag and state in bytes
pub record Counts (i : Instance) (width lane text full pack chain tag state : ℕ) : Type 0 where
  pub width_is : i.width ≡ width
  pub lane_is : i.lane ≡ lane
  pub text_is : text_rate i ≡ text
  pub full_is : full_rate i ≡ full
  pub pack_is : pack_length i ≡ pack
  pub chain_is : chain_length i ≡ chain
  pub tag_is : tag_len ≡ tag
  pub state_is : state_length i ≡ state

-- ---- the rule: n bytes are the largest multiple of a lane of w bytes that leaves k bits of b
pub record Largest (b w k n : ℕ) : Type 0 where
  pub lanes : ℕ
  pub multiple : n ≡ w * lanes
  pub leaves : 8 * n + k ≤ b
  pub largest : (m : ℕ) → 8 * (w * m) + k ≤ b → w * m ≤ n
