-- An answer's numbers tell the answer: two answers that say the same are the same.
use mathlib.Core.Path.{◌≡◌, refl, sym, ap, ◌∙◌}
use mathlib.Core.List.{List, [], ◌∷◌}
use Prim.Native.Nat.{ℕ, ◌-◌}
use lib.ListN.{get_or}
use native.Mathlib.Omega.{arith}
use Rattle.std.specs.Prelude.{Result, Ok, Err}
use Rattle.table.specs.Answers.{number, answer_of, number_of}
use Rattle.table.specs.declared.Answer.{Answer}
use Rattle.table.specs.declared.Done.{Done}
use Rattle.table.specs.declared.refusal.Refusal.{Refusal}
use Rattle.table.specs.declared.refusal.Refusal.TheVariants as why

-- the refusals by their numbers, from 1 on
abbrev lines : List Refusal
lines =
    why.NotStarted ∷ why.KeyLength ∷ why.NonceLength ∷ why.TextTooLong ∷ why.MetadataTooLong ∷ why.OutputShort ∷ why.TagLength ∷ why.TagDiffers
    ∷ why.HeaderLength ∷ why.Name ∷ why.BoreholeZero ∷ why.YearOrMonth ∷ why.CountOver31 ∷ why.Datum ∷ why.ReadingsLength ∷ why.ReadingRange ∷ []

abbrev refusal : ℕ → Refusal
refusal n = get_or lines (n - 1) why.ReadingRange

named : (r : Refusal) → refusal (number r) ≡ r
named why.NotStarted = refl
named why.KeyLength = refl
named why.NonceLength = refl
named why.TextTooLong = refl
named why.MetadataTooLong = refl
named why.OutputShort = refl
named why.TagLength = refl
named why.TagDiffers = refl
named why.HeaderLength = refl
named why.Name = refl
named why.BoreholeZero = refl
named why.YearOrMonth = refl
named why.CountOver31 = refl
named why.Datum = refl
named why.ReadingsLength = refl
named why.ReadingRange = refl

-- no two refusals have one number
pub numbered : (r s : Refusal) → number r ≡ number s → r ≡ s
numbered r s e = sym (named r) ∙ ap refusal e ∙ named s

-- and none has 0
pub refused_above : (r : Refusal) → number r ≡ 0 → ⊥
refused_above why.NotStarted e = omega arith
refused_above why.KeyLength e = omega arith
refused_above why.NonceLength e = omega arith
refused_above why.TextTooLong e = omega arith
refused_above why.MetadataTooLong e = omega arith
refused_above why.OutputShort e = omega arith
refused_above why.TagLength e = omega arith
refused_above why.TagDiffers e = omega arith
refused_above why.HeaderLength e = omega arith
refused_above why.Name e = omega arith
refused_above why.BoreholeZero e = omega arith
refused_above why.YearOrMonth e = omega arith
refused_above why.CountOver31 e = omega arith
refused_above why.Datum e = omega arith
refused_above why.ReadingsLength e = omega arith
refused_above why.ReadingRange e = omega arith

pub answered : (a b : Result Done Refusal) → answer_of a ≡ answer_of b → a ≡ b
answered (Ok d) (Ok e) h = ap (λ (x : Answer). Ok (record { written = x.written; runs = x.runs })) h
answered (Ok d) (Err s) h = absurd (refused_above s (sym (ap (λ (x : Answer). x.number) h)))
answered (Err r) (Ok e) h = absurd (refused_above r (ap (λ (x : Answer). x.number) h))
answered (Err r) (Err s) h = ap Err (numbered r s (ap (λ (x : Answer). x.number) h))

-- an answer that hands nothing else out
pub told : (a b : Result (Unit {0}) Refusal) → number_of a ≡ number_of b → a ≡ b
told (Ok d) (Ok e) h = refl
told (Ok d) (Err s) h = absurd (refused_above s (sym h))
told (Err r) (Ok e) h = absurd (refused_above r h)
told (Err r) (Err s) h = ap Err (numbered r s h)
