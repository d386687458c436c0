-- What the two parts of `splitn(2, ..)` at a space say of what is left of a line: `behind`.
use Rattle.std.proofs.Common.{rules, arith, ◌≡◌, ◌≤◌, ◌++◌, ◌∷◌, ℕ, List, Bool, Option, Some, None, true, false, length, subst, sym, Bor, MatchOption, option_map}
use Rattle.std.specs.Bool.{MatchBool}
use Rattle.std.specs.List.{IsFirstMatchOrLen, position_or_len}
use Rattle.std.proofs.lemmas.List.Sums.{position_or_len_is}
use Rattle.std.proofs.lemmas.List.{length-append}
use Rattle.std.proofs.Math.Seq.{drop-append-add}
use Rattle.vectors.specs.Line.{is_space, behind_space}

place : (line : List ℕ) (n : ℕ) → IsFirstMatchOrLen is_space line n → n ≤ length line → position_or_len is_space line ≡ n
place line n first fits = position_or_len_is is_space line n 0 fits (λ k below. first.0 k 0 (search arith) below) (λ below. first.1 below 0)

behind_none : (line word : List ℕ) → line ≡ word → IsFirstMatchOrLen is_space line (length word) → None ≡ behind_space line
behind_none line word whole first = let n = place line (length word) first (subst (λ l. length word ≤ length l) (sym whole) (search arith)) in grind arith

behind_some : (word rest : List ℕ) (y : ℕ) → IsFirstMatchOrLen is_space (word ++ (y ∷ rest)) (length word) → Some rest ≡ behind_space (word ++ (y ∷ rest))
behind_some word rest y first =
    let long = length-append word (y ∷ rest) in
    let n = place (word ++ (y ∷ rest)) (length word) first (omega (arith, long)) in
    let left = drop-append-add word (y ∷ rest) 1 in
    grind arith

-- a part as it is given, and what follows of it
pub weaken : {A N M : Type 0} {S T : A → Type 0} (o : Option A) → MatchOption o N S → (N → M) → ((x : A) → S x → T x) → MatchOption o M T
weaken None n none some = none n
weaken (Some x) s none some = some x s

-- `first` and `second` are the two parts, `rest` what is behind the first one, and `done` whether that is the whole line
pub behind : (line rest : List ℕ) (done : Bool) (first second : Option (Bor (List ℕ))) → MatchOption first ⊥ (λ x. MatchBool done (line ≡ x.now) ((y : ℕ) × (line ≡ x.now ++ (y ∷ rest))) × IsFirstMatchOrLen is_space line (length x.now)) → MatchOption second (done ≡ true) (λ x. (done ≡ false) × (rest ≡ x.now)) → option_map (λ r. r.now) second ≡ behind_space line
behind line rest done None second cut left = absurd cut
behind line rest true (Some x) None cut left = behind_none line x.now cut.0 cut.1
behind line rest false (Some x) None cut left = search (rules, left)
behind line rest true (Some x) (Some z) cut left = search (rules, left)
behind line rest false (Some x) (Some z) cut left =
    let some = behind_some x.now rest cut.0.0 (subst (λ l. IsFirstMatchOrLen is_space l (length x.now)) cut.0.1 cut.1) in
    cc
