-- Lake and River by name: KECCAK-p gives and keeps their states, and every block of their sessions has its shape.
use mathlib.Core.Path.{sym, ◌∙◌}
use mathlib.Core.List.{List}
use Rattle.keccak.proofs.State.{keccak_bytes-length, keccak_bytes_small}
use Rattle.motorist.specs.Instance.{lake, river}
use Rattle.motorist.specs.Piston.{Bytes}
use Rattle.motorist.specs.Motorist.{Start, Message}
use Rattle.motorist.specs.Session.{session_blocks}
use Rattle.motorist.specs.Keyak.{lake_f, river_f}
use Rattle.motorist.proofs.Instances.{lake_sound, river_sound, lake_counts, river_counts}
use Rattle.motorist.specs.Shape.{Each, State, SmallStart, SmallMessage, ShapedRound}
use Rattle.motorist.proofs.Shape.{session_shaped}

pub lake_gives : (s : Bytes) → State lake (lake_f s)
lake_gives s = record { long = keccak_bytes-length 6 12 s ∙ sym lake_counts.state_is; small = keccak_bytes_small 6 12 s }

pub river_gives : (s : Bytes) → State river (river_f s)
river_gives s = record { long = keccak_bytes-length 5 12 s ∙ sym river_counts.state_is; small = keccak_bytes_small 5 12 s }

pub lake_shaped : (a : Start) (gs : List Message) → SmallStart a → Each SmallMessage gs → Each (ShapedRound lake) (session_blocks lake lake_f a gs)
lake_shaped = session_shaped lake lake_sound lake_f (λ s h. lake_gives s)

pub river_shaped : (a : Start) (gs : List Message) → SmallStart a → Each SmallMessage gs → Each (ShapedRound river) (session_blocks river river_f a gs)
river_shaped = session_shaped river river_sound river_f (λ s h. river_gives s)
