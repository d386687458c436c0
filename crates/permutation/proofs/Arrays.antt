-- The two types of lanes that there are, as the check has them, and what the language's own laws say of each: that it is a type, and may be copied. A theorem over any lanes
-- holds of these two by them with no premise left.
use mathlib.Core.Path.{refl}
use denote.RattleType.{RattleType}
use denote.Array.{Array}
use denote.Struct.Field.{u32-field, u64-field}
use denote.Struct.Laws.{u32-laws, u32-copy, u64-laws, u64-copy}
use denote.Param.Laws.{Laws, IsCopy, of_field, of_copyable, array_laws, array_copy}
use denote.Param.Shared.{copy_shared}
use Rattle.lanes.specs.declared.Lanes as Lanes

abbrev pub Wide : RattleType
Wide = Array u64-field.row 25

abbrev pub Narrow : RattleType
Narrow = Array u32-field.row 25

-- both are the numbers that they hold
abbrev pub wide : Lanes.Ghosts Wide.Denot
wide = record { L = 6; BYTES = 8; lanes = λ x. x; of_lanes = λ x. x }

abbrev pub narrow : Lanes.Ghosts Narrow.Denot
narrow = record { L = 5; BYTES = 4; lanes = λ x. x; of_lanes = λ x. x }

abbrev pub wide_laws : Laws Wide
wide_laws = array_laws u64-field.row (of_field u64-field u64-laws refl (copy_shared u64-field u64-copy)) 25

abbrev pub wide_copy : IsCopy Wide
wide_copy = array_copy u64-field.row (of_copyable u64-field u64-copy) 25

abbrev pub narrow_laws : Laws Narrow
narrow_laws = array_laws u32-field.row (of_field u32-field u32-laws refl (copy_shared u32-field u32-copy)) 25

abbrev pub narrow_copy : IsCopy Narrow
narrow_copy = array_copy u32-field.row (of_copyable u32-field u32-copy) 25
