-- That a call's contract has one outcome: two that meet its `ensures` on the same entry values are equal, in the answer and in every
-- lent element at exit. Each crate of calls says so of its own.
use mathlib.Core.Path.{◌≡◌}
use mathlib.Core.List.{List}
use Prim.Native.Nat.{ℕ}
use borrow.Fn.Kinds.{ParamKind, ResultKind, Out, Dens, res_t, ended_of}
use contract.Lifetimes.{Lfts}
use denote.Triple.Clauses.{AtExit}

-- n, ps and r are the call's lifetimes, parameters and answer (its module Kinds). `ensures` is its clause as the check made it of the
-- source (its module Reads, `Learnt`): of the arguments at entry, the answer and the parameters at exit.
-- `seen` is the answer, with the lists behind what was lent as &mut.
abbrev pub Once : (A : Type 0) (n : ℕ) (ps : List (ParamKind n)) (r : ResultKind n) (ensures : Out n ps r)
    (seen : (κs : Lfts n) → (res_t r κs).Denot → AtExit (ended_of n ps r) κs → A) → Type 0
Once A n ps r ensures seen =
    (κs : Lfts n) (entry : Dens κs ps) (a b : (res_t r κs).Denot) (x y : AtExit (ended_of n ps r) κs)
    → ensures κs entry a x → ensures κs entry b y → seen κs a x ≡ seen κs b y
