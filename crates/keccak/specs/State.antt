-- The state as a string of bits and as a string of bytes, and the permutation of a state of b / 8 bytes.
use Rattle.std.specs.Prelude.{List, [], ◌∷◌, ◌++◌, ℕ, zero, suc, ◌/◌, ◌^◌, take, drop}
use Rattle.endian.specs.Little.{from_bytes, to_bytes}
use Rattle.keccak.specs.Keccak.{keccak_p}
use Rattle.keccak.specs.Bits.{bit}
use Rattle.keccak.specs.Lanes.{from, bits, lanes_of}

-- the string s of the lanes, w bits a lane: s[w (5 y + x) + z] = a[x, y, z]
unfoldable pub string : ℕ → List ℕ → List ℕ
string w [] = []
string w (n ∷ l) = from w 0 (bit n) ++ string w l

-- the bytes of the lanes, w bytes a lane, the lowest byte of a lane first
unfoldable pub bytes : ℕ → List ℕ → List ℕ
bytes w [] = []
bytes w (n ∷ l) = to_bytes w n ++ bytes w l

-- the n lanes of w bytes each whose bytes are s
unfoldable pub lanes_from : ℕ → ℕ → List ℕ → List ℕ
lanes_from w zero s = []
lanes_from w (suc n) s = from_bytes (take w s) ∷ lanes_from w n (drop w s)

-- KECCAK-p[25 · 2^l, n] of a state given as its bytes
unfoldable pub keccak_bytes : ℕ → ℕ → List ℕ → List ℕ
keccak_bytes l n s = let w = 2 ^ l / 8 in bytes w (lanes_of (2 ^ l) (keccak_p l n (bits (lanes_from w 25 s))))
