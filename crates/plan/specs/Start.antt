-- What a start injects at one Piston: the key pack of so many bytes, the nonce, the number of Pistons and the index of this one.
use Rattle.std.specs.Prelude.{false, [], ◌∷◌, ◌++◌, ℕ, replicate}
use Rattle.motorist.specs.Instance.{Instance, state_length, pack_length}
use Rattle.motorist.specs.Engine.{Ride, group}
use Rattle.motorist.specs.Piston.{Bytes}
use Rattle.motorist.specs.Motorist.{key_pack}

abbrev pub start_bytes : ℕ → Bytes → Bytes → Bytes
start_bytes pack key nonce = (key_pack pack key ++ nonce) ++ (1 ∷ 0 ∷ [])

-- the group that injects it from all zeros on and ends with the EOM e
abbrev pub start_group : Instance → (Bytes → Bytes) → Bytes → Bytes → ℕ → Ride
start_group i f key nonce e = group i f false (replicate (state_length i) 0 ∷ []) 0 [] (start_bytes (pack_length i) key nonce) (e ∷ [])
