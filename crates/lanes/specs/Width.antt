-- A width of a lane, as the code has it: 2 ^ l bits, which are w bytes; and what holds of 25 such lanes.
use Rattle.std.specs.Prelude.{◌≡◌, List, ℕ, ◌*◌, ◌/◌, ◌%◌, ◌^◌, ◌<◌, ◌≤◌, length, get_or}
use Rattle.std.proofs.Common.{refl, arith}
use Rattle.motorist.specs.Instance.{Instance, Sound, solo, pack_length, state_length, text_rate, full_rate, chain_length, tag_len}

-- 25 lanes of w bits
pub record IsState (w : ℕ) (s : List ℕ) : Type 0 where
  pub long : length s ≡ 25
  pub small : (i : ℕ) → get_or s i 0 < 2 ^ w

-- the instance of one Piston whose lanes have 2 ^ l bits: Lake where l is 6, River where it is 5
abbrev pub instance : ℕ → Instance
instance l = solo (25 * 2 ^ l) (2 ^ l) 256

-- what the code rests on, of each width that is implemented: the instance is sound, a state is 25 lanes, and its rates, a tag and a chaining value are whole lanes
pub record Width (l w : ℕ) : Type 0 where
  pub bytes : w ≡ 2 ^ l / 8
  pub some : 0 < w
  pub few : w ≤ 8
  pub least : 3 ≤ l
  pub wide : l ≤ 6
  pub sound : Sound (instance l)
  pub state : state_length (instance l) ≡ w * 25
  pub text_lane : text_rate (instance l) % w ≡ 0
  pub full_lane : full_rate (instance l) % w ≡ 0
  pub tag_lane : tag_len % w ≡ 0
  pub chain : chain_length (instance l) ≡ 32

pub width64 : Width 6 8
unfolding state_length text_rate full_rate chain_length pack_length
width64 =
    record {
      bytes = refl;
      some = omega arith;
      few = omega arith;
      least = omega arith;
      wide = omega arith;
      sound = omega arith;
      state = refl;
      text_lane = refl;
      full_lane = refl;
      tag_lane = refl;
      chain = refl;
    }

pub width32 : Width 5 4
unfolding state_length text_rate full_rate chain_length pack_length
width32 =
    record {
      bytes = refl;
      some = omega arith;
      few = omega arith;
      least = omega arith;
      wide = omega arith;
      sound = omega arith;
      state = refl;
      text_lane = refl;
      full_lane = refl;
      tag_lane = refl;
      chain = refl;
    }
