-- The Motorist (003, 1.6) and the key pack (2.2): starting a session, wrapping and unwrapping a message, knots, tags, and where the next text starts.
use Rattle.std.specs.Prelude.{ℕ, zero, suc, ◌≤◌, Bool, true, false, ◌||◌, List, [], ◌∷◌, ◌++◌, length, take, replicate}
use Rattle.motorist.specs.Instance.{Instance, pistons, state_length, chain_length, pack_length, tag_len}
use Rattle.motorist.specs.Piston.{Bytes, pad, eom}
use Rattle.motorist.specs.Engine.{States, Blocks, first_piston, Ride, run, group, inject_collective}

-- what starts a session
pub record Start : Type 0 where
  pub key : Bytes
  pub nonce : Bytes
  pub tagged : Bool
  pub forgets : Bool

-- a message: its text is the plaintext, or the ciphertext where it stands for a cryptogram
pub record Message : Type 0 where
  pub text : Bytes
  pub meta : Bytes
  pub forgets : Bool

-- a key of 16 to 32 bytes
pub record Keyed (a : Start) : Type 0 where
  pub long : 16 ≤ length a.key
  pub short : length a.key ≤ 32

-- the key pack of l bytes: l, the key, 1, zeros
abbrev pub key_pack : ℕ → Bytes → Bytes
key_pack l key = pad l (l ∷ key ++ (1 ∷ []))

-- how many output bytes of the first Piston are taken as tag where a group ends. The next text starts behind them: at 16 after a message, whatever it was,
-- and after a start at 16 if a tag was asked, else at 0
abbrev pub taken : Bool → ℕ
taken true = tag_len
taken false = 0

-- the tag
abbrev pub tag : States → Bytes
tag ss = take tag_len (first_piston ss)

abbrev pub several : ℕ → Bool
several zero = false
several (suc n) = true

module _ (i : Instance) where
  -- the EOMs of a group's last round: with a tag from the first Piston or without, and before a knot
  abbrev pub ends : Bool → List ℕ
  ends tagged = eom (taken tagged) ∷ replicate i.others (eom 0)

  abbrev pub chains : List ℕ
  chains = replicate (pistons i) (eom (chain_length i))

  -- the chaining values of all Pistons
  abbrev pub chain : States → Bytes
  chain [] = []
  chain (s ∷ ss) = take (chain_length i) s ++ chain ss

  -- all Pistons before a session starts
  abbrev pub fresh : States
  fresh = replicate (pistons i) (replicate (state_length i) 0)

  -- for each of n Pistons from index j on: the string, the number of Pistons, its index
  abbrev pub diversify : ℕ → ℕ → Bytes → List Bytes
  diversify zero j m = []
  diversify (suc n) j m = (m ++ (pistons i ∷ j ∷ [])) ∷ diversify n (suc j) m

  -- the secret and unique value: key pack and nonce
  abbrev pub suv : Start → Bytes
  suv a = key_pack (pack_length i) a.key ++ a.nonce

  -- a message has a knot if there are several Pistons, or if it is to be forgotten
  abbrev pub knots : Message → Bool
  knots g = several i.others || g.forgets

  module _ (f : Bytes → Bytes) where
    -- strings injected collectively from the states ss on
    abbrev pub inject : States → List Bytes → List ℕ → Ride
    inject ss ms es =
        let bs : List Blocks = inject_collective i ms es in
        record { output = []; blocks = bs; states = run i f ss bs }

    -- a group that is to end with the EOMs es. With a knot it ends for the chaining values instead, and these, injected collectively, end with es
    abbrev pub knot : Bool → (List ℕ → Ride) → List ℕ → Ride
    knot false group es = group es
    knot true group es =
        let x : Ride = group chains in
        let y : Ride = inject x.states (replicate (pistons i) (chain x.states)) es in
        record { output = x.output; blocks = x.blocks ++ y.blocks; states = y.states }

    -- a start
    unfoldable pub start : Start → Ride
    start a = knot a.forgets (inject fresh (diversify (pistons i) 0 (suv a))) (ends a.tagged)

    -- a message from the states ss on, its text from `at` on: wrapped, or (decrypt) unwrapped. A tag is always taken
    unfoldable pub message : Bool → States → ℕ → Message → Ride
    message decrypt ss at g = knot (knots g) (group i f decrypt ss at g.text g.meta) (ends true)

    abbrev pub wrap : States → ℕ → Message → Ride
    wrap = message false

    abbrev pub unwrap : States → ℕ → Message → Ride
    unwrap = message true
