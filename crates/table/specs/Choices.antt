-- The cases of a phase and of a start tag's use, and the number of each phase.
use Rattle.std.specs.Prelude.{Bool, true, false, ℕ}
use Rattle.table.specs.declared.Phase.{Phase}
use Rattle.table.specs.declared.Phase.TheVariants.{Unstarted, Riding, Failed}
use Rattle.table.specs.declared.StartTag.{StartTag}
use Rattle.table.specs.declared.StartTag.TheVariants.{None, Produced, Checked}

abbrev pub phase_number : Phase → ℕ
phase_number Unstarted = 0
phase_number Riding = 1
phase_number Failed = 2

abbrev pub is_riding : Phase → Bool
is_riding Unstarted = false
is_riding Riding = true
is_riding Failed = false

-- a start tag is asked for whether it is to be produced or checked
abbrev pub asked : StartTag → Bool
asked None = false
asked Produced = true
asked Checked = true
