-- The proof that `endian::spread` meets its contract.
use mathlib.Core.Path.{◌≡◌}
use mathlib.Core.List.{◌++◌}
use Prim.Native.Nat.{◌*◌, ◌/◌, ◌^◌}
use lib.ListN.{drop}
use Rattle.endian.specs.Little.{to_bytes}
use Rattle.endian.proofs.spread.Given as goal

abbrev pub invariant-loop-byte : goal.invariant-loop-byte
invariant-loop-byte l = (l.rest ≡ l.x / 2 ^ (8 * l.byte-index)) × (l.out ≡ to_bytes l.byte-index l.x ++ drop l.byte-index l.initial.out)
