-- The client's numbers, by the name of their line in the table.
use Rattle.std.specs.Prelude.{ℕ}

abbrev pub done : ℕ
done = 0

abbrev pub not_started : ℕ
not_started = 1

abbrev pub key_length : ℕ
key_length = 2

abbrev pub nonce_length : ℕ
nonce_length = 3

abbrev pub text_too_long : ℕ
text_too_long = 4

abbrev pub metadata_too_long : ℕ
metadata_too_long = 5

abbrev pub output_short : ℕ
output_short = 6

abbrev pub tag_length : ℕ
tag_length = 7

abbrev pub tag_differs : ℕ
tag_differs = 8

abbrev pub header_length : ℕ
header_length = 9

abbrev pub name_bad : ℕ
name_bad = 10

abbrev pub borehole_zero : ℕ
borehole_zero = 11

abbrev pub year_or_month : ℕ
year_or_month = 12

abbrev pub count_over_31 : ℕ
count_over_31 = 13

abbrev pub datum_range : ℕ
datum_range = 14

abbrev pub readings_length : ℕ
readings_length = 15

abbrev pub reading_range : ℕ
reading_range = 16
