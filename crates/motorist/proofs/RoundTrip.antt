-- The round trip. Whoever is in the same state and takes what was put out the other way, with the same metadata and choices, has the text again,
-- feeds the same blocks and ends in the same state: for unwrapping what was wrapped, and for wrapping what any ciphertext unwraps to.
use Prim.Native.Nat.{ℕ, ◌<◌}
use mathlib.Core.Path.{◌≡◌, refl, sym, ap, ◌∙◌}
use mathlib.Core.Bool.{Bool, true, false, not}
use mathlib.Core.List.{List, [], ◌∷◌, ◌++◌, append_assoc}
use native.Mathlib.Omega.{arith}
use lib.ListN.{length, take, drop, length-drop, take-append-drop}
use lib.Seq.{take_at, drop_at, length-take-le}
use Rattle.motorist.specs.Instance.{Instance, Sound, text_rate, tag_len}
use Rattle.motorist.specs.Piston.{Bytes, mask}
use Rattle.motorist.specs.Engine.{States, first_piston, Round, text_after, meta_after, goes_on, round, Ride, crypt, fill, absorbs, run, ride, group}
use Rattle.motorist.specs.Motorist.{Message, knots, ends, knot, message, wrap, unwrap}
use Rattle.motorist.specs.Session.{Step, step, with_text, mirror_of, plaintext_of, Steps, steps}
use Rattle.motorist.proofs.Plans.{Planned, last, more, planned, round_left, text_after_length}
use Rattle.motorist.proofs.Rides.{Within, round-within, group_output, message_run}
use Rattle.motorist.proofs.Xors.{length-xors, xors-xors, plain-mask}

-- ---- a round
-- the output of a round, with more behind it, taken the other way
pub record Back (i : Instance) (decrypt : Bool) (r : Round) (ss : States) (t rest m : Bytes) : Type 0 where
  -- it comes back to the text that the round took
  pub text : crypt r ss (crypt r ss t ++ rest) ++ text_after r t ≡ t
  -- it is what the round takes
  pub after : text_after r (crypt r ss t ++ rest) ≡ rest
  -- it makes the same blocks
  pub blocks : fill i (not decrypt) r ss (crypt r ss t ++ rest) m ≡ fill i decrypt r ss t m

round_back : (i : Instance) (decrypt : Bool) (r : Round) (ss : States) (t rest m : Bytes) → Within r (length t) → Back i decrypt r ss t rest m
round_back i decrypt [] ss t rest m w = record { text = refl; after = refl; blocks = refl }
round_back i decrypt (p ∷ ps) ss t rest m w =
    let s : Bytes = first_piston ss in
    let x : Bytes = mask s p.at (take p.text t) in
    let y : Bytes = crypt ps (drop 1 ss) (drop p.text t) in
    let l : length x ≡ p.text = length-xors (take p.text t) (drop p.at s) ∙ length-take-le p.text t w.0 in
    let ih = round_back i decrypt ps (drop 1 ss) (drop p.text t) rest (drop p.meta m) (rw length-drop w.1) in
    let z : (x ++ y) ++ rest ≡ x ++ (y ++ rest) = append_assoc x y rest in
    let a : take p.text (x ++ (y ++ rest)) ≡ x = take_at x (y ++ rest) p.text l in
    let d : drop p.text (x ++ (y ++ rest)) ≡ y ++ rest = drop_at x (y ++ rest) p.text l in
    record {
      text = rw (z, a, d, xors-xors, append_assoc, ih.text, take-append-drop);
      after = rw (z, d) ih.after;
      blocks = rw (z, a, d, plain-mask decrypt s p.at (take p.text t), ih.blocks);
    }

-- the text t in place of the output
abbrev pub mirrored : Bytes → Ride → Ride
mirrored t x = record { output = t; blocks = x.blocks; states = x.states }

none_left_lem : (l : Bytes) → length l ≡ 0 → l ≡ []
none_left_lem [] h = refl
none_left_lem (x ∷ l) h = absurd (omega arith)

-- ---- a ride
module _ (i : Instance) (f : Bytes → Bytes) (decrypt : Bool) where
  ride_back : {es : List ℕ} {at n k : ℕ} {rs : List Round} → Planned i es at n k rs → (ss : States) (t m : Bytes) → length t ≡ n
      → ride i f (not decrypt) rs ss (ride i f decrypt rs ss t m).output m ≡ mirrored t (ride i f decrypt rs ss t m)
  ride_back {es} (last {at = at} {t = n} {m = k} h p q) ss t m e =
      let r : Round = round i at n k es in
      let b = round_back i decrypt r ss t [] m (rw e (round-within i at n k es)) in
      let z : text_after r t ≡ [] = none_left_lem (text_after r t) (text_after_length r t ∙ rw e ((round_left i at n k es).0 ∙ p)) in
      rw (b.blocks, rw z at b.text)
  ride_back {es} (more {at = at} {t = n} {m = k} {rs = rs} h g ps) ss t m e =
      let r : Round = round i at n k (goes_on es) in
      let ss' : States = absorbs i f ss (fill i decrypt r ss t m) in
      let t' : Bytes = text_after r t in
      let m' : Bytes = meta_after r m in
      let b = round_back i decrypt r ss t (ride i f decrypt rs ss' t' m').output m (rw e (round-within i at n k (goes_on es))) in
      let ih = ride_back ps ss' t' m' (text_after_length r t ∙ rw e) in
      rw (b.blocks, b.after, ih, b.text)

  -- ---- a message
  module _ (ok : Sound i) (ss : States) (at : ℕ) (ha : at < text_rate i) where
    group_back : (t m : Bytes) (e : ℕ) (es : List ℕ)
        → group i f (not decrypt) ss at (group i f decrypt ss at t m (e ∷ es)).output m (e ∷ es) ≡ mirrored t (group i f decrypt ss at t m (e ∷ es))
    group_back t m e es = rw (group_output i f ok decrypt ss at ha t m e es) (ride_back (planned i ok e es at (length t) (length m) ha) ss t m refl)

    knot_back : (k : Bool) (t m : Bytes)
        → knot i f k (group i f (not decrypt) ss at (knot i f k (group i f decrypt ss at t m) (ends i true)).output m) (ends i true)
        ≡ mirrored t (knot i f k (group i f decrypt ss at t m) (ends i true))
    knot_back false t m = group_back t m _ _
    knot_back true t m = rw (group_back t m _ _)

    pub message_back : (g : Message)
        → message i f (not decrypt) ss at (with_text (message i f decrypt ss at g).output g) ≡ mirrored g.text (message i f decrypt ss at g)
    unfolding message
    message_back g = knot_back (knots i g) g.text g.meta

-- ---- the mirror of a step
mirror_twice : (x : Step) (o : Bytes) → mirror_of (mirror_of x o) x.message.text ≡ x
mirror_twice x o = go x.decrypt
  where
    go : (d : Bool) → step (not (not d)) x.message ≡ step d x.message
    go true = refl
    go false = refl

mirror_plaintext : (x : Step) (o : Bytes) → plaintext_of (mirror_of x o) x.message.text ≡ plaintext_of x o
mirror_plaintext x o = go x.decrypt
  where
    go : (d : Bool) → plaintext_of (step (not d) (with_text o x.message)) x.message.text ≡ plaintext_of (step d x.message) o
    go true = refl
    go false = refl

module _ (i : Instance) (ok : Sound i) (f : Bytes → Bytes) where
  -- ---- unwrapping what was wrapped, with the same metadata and choice, gives the text, and the same blocks and states
  pub unwrap-wrap : (ss : States) (at : ℕ) (g : Message) → at < text_rate i
      → unwrap i f ss at (with_text (wrap i f ss at g).output g)
      ≡ mirrored g.text (wrap i f ss at g)
  unwrap-wrap ss at g ha = message_back i f false ok ss at ha g

  -- ---- every ciphertext unwraps to a text whose wrapping gives the ciphertext; the blocks are those of the text, and the states those that they lead to
  pub wrap-unwrap : (ss : States) (at : ℕ) (c : Message) → at < text_rate i
      → wrap i f ss at (with_text (unwrap i f ss at c).output c)
      ≡ mirrored c.text (unwrap i f ss at c)
  wrap-unwrap ss at c ha = message_back i f true ok ss at ha c

  pub unwrap-run : (ss : States) (at : ℕ) (c : Message) → at < text_rate i
      → (unwrap i f ss at c).states ≡ run i f ss (wrap i f ss at (with_text (unwrap i f ss at c).output c)).blocks
  unwrap-run ss at c ha = message_run i f true ss at c ∙ ap (λ x. run i f ss x) (sym (ap (λ (x : Ride). x.blocks) (wrap-unwrap ss at c ha)))

  -- ---- steps: their mirrors, each of which takes an output the other way, have the same messages, tags, blocks and states
  pub steps_back : (ss : States) (at : ℕ) (xs : List Step) → at < text_rate i
      → steps i f ss at (steps i f ss at xs).mirror
      ≡ (let y : Steps = steps i f ss at xs in
      record { mirror = xs; messages = y.messages; tags = y.tags; blocks = y.blocks; states = y.states })
  steps_back ss at [] ha = refl
  steps_back ss at (x ∷ xs) ha =
      let r : Ride = message i f x.decrypt ss at x.message in
      let b = message_back i f x.decrypt ok ss at ha x.message in
      let ih = steps_back r.states tag_len xs ok.tag_fits in
      rw (b, ih, mirror_twice x r.output, mirror_plaintext x r.output)
