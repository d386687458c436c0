-- What an answer says in the client's numbers: each refusal has its line's, a call that is done 0; and what a refusal is told beside it.
use Rattle.std.specs.Prelude.{Bool, true, false, ℕ, Result, Ok, Err}
use Rattle.table.specs.Numbers.{done, not_started, key_length, nonce_length, text_too_long, metadata_too_long, output_short, tag_length, tag_differs, header_length, name_bad, borehole_zero, year_or_month, count_over_31, datum_range, readings_length, reading_range}
use Rattle.table.specs.declared.Answer.{Answer}
use Rattle.table.specs.declared.Done.{Done}
use Rattle.table.specs.declared.refusal.Refusal.{Refusal}
use Rattle.table.specs.declared.refusal.Refusal.TheVariants as why

abbrev pub number : Refusal → ℕ
number why.NotStarted = not_started
number why.KeyLength = key_length
number why.NonceLength = nonce_length
number why.TextTooLong = text_too_long
number why.MetadataTooLong = metadata_too_long
number why.OutputShort = output_short
number why.TagLength = tag_length
number why.TagDiffers = tag_differs
number why.HeaderLength = header_length
number why.Name = name_bad
number why.BoreholeZero = borehole_zero
number why.YearOrMonth = year_or_month
number why.CountOver31 = count_over_31
number why.Datum = datum_range
number why.ReadingsLength = readings_length
number why.ReadingRange = reading_range

abbrev pub number_of : {A : Type 0} → Result A Refusal → ℕ
number_of (Ok a) = done
number_of (Err r) = number r

-- the test that refuses
abbrev pub refused_if : Bool → Refusal → Result (Unit {0}) Refusal
refused_if true r = Err r
refused_if false r = Ok tt

-- what a start, a wrap or an unwrap answers: the number, the bytes written, the permutation runs; every refusal reports 0 and 0
abbrev pub answer_of : Result Done Refusal → Answer
answer_of (Ok d) = record { number = done; written = d.written; runs = d.runs }
answer_of (Err r) = record { number = number r; written = 0; runs = 0 }
