-- The key pack: its length, and the key read back from it.
use Prim.Native.Nat.{ℕ, zero, suc, ◌+◌, ◌-◌, ◌≤◌}
use mathlib.Core.Path.{◌≡◌, refl, ap, ◌∙◌}
use mathlib.Core.Bool.{true, false}
use mathlib.Core.List.{[], ◌∷◌, ◌++◌, append_assoc}
use native.Mathlib.Omega.{arith}
use lib.ListN.{length, take, drop, replicate, length-append, length-replicate}
use lib.Seq.{take_at, drop_at}
use Rattle.motorist.specs.Instance.{Instance, Sound, pack_length}
use Rattle.motorist.specs.Piston.{Bytes, pad}
use Rattle.motorist.specs.Motorist.{Start, Keyed, key_pack, suv}
use Rattle.motorist.specs.Reader.{zeros?, trim, as_start}

pub length_pad : (n : ℕ) (l : Bytes) → length l ≤ n → length (pad n l) ≡ n
length_pad n l h = simp (length-append, length-replicate) (omega arith)

pub length_pack : (l : ℕ) (key : Bytes) → length key + 2 ≤ l → length (key_pack l key) ≡ l
length_pack l key h = length_pad l (l ∷ key ++ (1 ∷ [])) (simp length-append (omega arith))

-- ---- the key back from its pack
zeros_yes : (n : ℕ) → zeros? (replicate n 0) ≡ true
zeros_yes zero = refl
zeros_yes (suc n) = zeros_yes n

zeros_no : (k l : Bytes) → zeros? (k ++ 1 ∷ l) ≡ false
zeros_no [] l = refl
zeros_no (zero ∷ k) l = zeros_no k l
zeros_no (suc x ∷ k) l = refl

trim_back : (k : Bytes) (n : ℕ) → trim (k ++ 1 ∷ replicate n 0) ≡ k
trim_back [] n = rw (zeros_yes n, trim)
trim_back (x ∷ k) n = rw (zeros_no k (replicate n 0), trim) (ap {B = Bytes} (λ r. x ∷ r) (trim_back k n))

pub key_back : (l : ℕ) (key : Bytes) → trim (drop 1 (key_pack l key)) ≡ key
key_back l key =
    let n : ℕ = l - length (l ∷ key ++ (1 ∷ [])) in
    ap trim (append_assoc key (1 ∷ []) (replicate n 0)) ∙ trim_back key n

-- ---- key pack and nonce, with the two bytes behind them
pub length-suv : (i : Instance) → Sound i → (a : Start) → Keyed a → (x y : ℕ) → length (suv i a ++ (x ∷ y ∷ [])) ≡ pack_length i + length a.nonce + 2
length-suv i ok a k x y =
    length-append (suv i a) (x ∷ y ∷ [])
    ∙ ap (λ n. n + 2)
    (length-append (key_pack (pack_length i) a.key) a.nonce ∙ ap (λ n. n + length a.nonce) (length_pack (pack_length i) a.key (omega (arith, ok.pack_holds, k.short))))

nonce_back : (n : Bytes) (x y : ℕ) → take (length (n ++ x ∷ y ∷ []) - 2) (n ++ x ∷ y ∷ []) ≡ n
nonce_back n x y = take_at n (x ∷ y ∷ []) (length (n ++ x ∷ y ∷ []) - 2) (simp length-append (omega arith))

pub start_back : (i : Instance) → Sound i → (a : Start) → Keyed a → (x y : ℕ)
    → as_start i (record { text = []; meta = suv i a ++ (x ∷ y ∷ []); forgets = a.forgets; tagged = a.tagged }) ≡ a
start_back i ok a k x y =
    let p : Bytes = key_pack (pack_length i) a.key in
    let l : length p ≡ pack_length i = length_pack (pack_length i) a.key (omega (arith, ok.pack_holds, k.short)) in
    let q : Bytes = a.nonce ++ (x ∷ y ∷ []) in
    rw (append_assoc p a.nonce (x ∷ y ∷ []), take_at p q (pack_length i) l, drop_at p q (pack_length i) l)
    (λ j. record { key = key_back (pack_length i) a.key j; nonce = nonce_back a.nonce x y j; tagged = a.tagged; forgets = a.forgets })
