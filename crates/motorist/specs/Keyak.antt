-- Keyak's permutations (003, 2.3 and 2.4): KECCAK-p of the instance's width with 12 rounds, on the bytes of a state. With them the definitions of this crate are
-- Lake and River: `start lake lake_f`, `wrap river river_f`, `session_blocks lake lake_f` and so on.
use Rattle.keccak.specs.State.{keccak_bytes}
use Rattle.motorist.specs.Piston.{Bytes}

-- KECCAK-p[1600, 12]: Lake's, and that of Sea, Ocean and Lunar
abbrev pub lake_f : Bytes → Bytes
lake_f = keccak_bytes 6 12

-- KECCAK-p[800, 12]: River's
abbrev pub river_f : Bytes → Bytes
river_f = keccak_bytes 5 12
