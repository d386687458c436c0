-- An instance of Keyak v2 (003, 1.6, 2.3 and 2.4): its parameters, counted in bits, and the counts of bytes that follow from them.
use Rattle.std.specs.Prelude.{ℕ, suc, ◌+◌, ◌-◌, ◌*◌, ◌/◌, ◌≤◌, ◌<◌, max}

-- the width b, the alignment unit W (a lane) and the capacity c, in bits; and how many Pistons there are beside the first.
-- There is no rate among them: rates and lengths follow
pub record Instance : Type 0 where
  pub width : ℕ
  pub lane : ℕ
  pub capacity : ℕ
  pub others : ℕ

abbrev pub pistons : Instance → ℕ
pistons i = suc i.others

-- a count of bits, in bytes
abbrev pub in_bytes : ℕ → ℕ
in_bytes n = n / 8

-- n / d, rounded up
abbrev pub round_up : ℕ → ℕ → ℕ
round_up n d = (n + (d - 1)) / d

-- the length of the state
unfoldable pub state_length : Instance → ℕ
state_length i = in_bytes i.width

-- Rs: the largest multiple of W that leaves at least c bits, and at least 32
unfoldable pub text_rate : Instance → ℕ
text_rate i = in_bytes ((i.width - max i.capacity 32) / i.lane * i.lane)

-- Ra: the largest multiple of W that leaves at least 32 bits
unfoldable pub full_rate : Instance → ℕ
full_rate i = in_bytes ((i.width - 32) / i.lane * i.lane)

-- a chaining value: the smallest multiple of W from c bits on
unfoldable pub chain_length : Instance → ℕ
chain_length i = in_bytes (round_up i.capacity i.lane * i.lane)

-- a key pack: the smallest multiple of W from c + 9 bits on
unfoldable pub pack_length : Instance → ℕ
pack_length i = in_bytes (round_up (i.capacity + 9) i.lane * i.lane)

-- a tag has 128 bits
abbrev pub tag_len : ℕ
tag_len = in_bytes 128

-- an instance with one Piston
abbrev pub solo : ℕ → ℕ → ℕ → Instance
solo b w c = record { width = b; lane = w; capacity = c; others = 0 }

-- Keyak's instance of width b with n Pistons beside the first: 25 lanes of at least 8 bits, a capacity of 256 bits
abbrev pub keyak : ℕ → ℕ → Instance
keyak b n = record { width = b; lane = max (b / 25) 8; capacity = 256; others = n }

abbrev pub river : Instance
river = keyak 800 0

abbrev pub lake : Instance
lake = keyak 1600 0

abbrev pub sea : Instance
sea = keyak 1600 1

abbrev pub ocean : Instance
ocean = keyak 1600 3

abbrev pub lunar : Instance
lunar = keyak 1600 7

-- what the laws ask of an instance, and each of the five has: room for text behind a tag, for metadata behind text, and for the four offset bytes,
-- each of which is a byte below 248; chaining values that fit the text rate and are longer than a tag; room for a key of 32 bytes in its pack
pub record Sound (i : Instance) : Type 0 where
  pub tag_fits : tag_len < text_rate i
  pub text_fits : text_rate i ≤ full_rate i
  pub offsets_fit : full_rate i + 4 ≤ state_length i
  pub offsets_small : full_rate i < 248
  pub chain_long : tag_len < chain_length i
  pub chain_fits : chain_length i ≤ text_rate i
  pub pack_holds : 34 ≤ pack_length i
  pub pack_small : pack_length i < 256
  pub pistons_small : pistons i < 256
