-- A session as the calls see it, whatever record holds it: what a record shows, and the three ways in which a call makes one.
use Rattle.std.specs.Prelude.{◌≡◌, Bool, ◌&&◌, ◌||◌, ℕ, eqb, replicate}
use Rattle.table.specs.Choices.{is_riding}
use Rattle.table.specs.declared.Phase.{Phase}
use Rattle.table.specs.declared.Phase.TheVariants.{Unstarted, Riding, Failed}
use Rattle.motorist.specs.Instance.{Instance, state_length, tag_len}
use Rattle.motorist.specs.Piston.{Bytes}

-- what a record shows: its phase, the bytes of its state, and where the next text starts
pub record View : Type 0 where
  pub phase : Phase
  pub state : Bytes
  pub at : ℕ

-- a session that may be used is under way, its text start 0 or 16
abbrev pub live : Phase → ℕ → Bool
live phase at = is_riding phase && (eqb at 0 || eqb at tag_len)

-- a kind of record: what each shows, and its three constructors
pub record Records (R : Type 0) : Type 0 where
  pub shows : R → View
  pub unstarted : R
  pub failed : R
  pub riding : Bytes → ℕ → R

-- ---- what the three are to show
-- all zero, text start 0
abbrev pub zeroed : Instance → Phase → View
zeroed i phase = record { phase = phase; state = replicate (state_length i) 0; at = 0 }

-- under way in the state s, the next text from `at` on
abbrev pub under_way : Bytes → ℕ → View
under_way s at = record { phase = Riding; state = s; at = at }

-- a kind of record serves an instance if they do, whatever state f gives
pub record Serves {R : Type 0} (K : Records R) (i : Instance) (f : Bytes → Bytes) : Type 0 where
  pub unstarted : K.shows K.unstarted ≡ zeroed i Unstarted
  pub failed : K.shows K.failed ≡ zeroed i Failed
  pub riding : (x : Bytes) (at : ℕ) → K.shows (K.riding (f x) at) ≡ under_way (f x) at
