-- The laws of rides: their blocks are as many as their rounds, their output is as long as their text, and the states after are those that the blocks lead to.
use Prim.Native.Nat.{ℕ, suc, ◌+◌, ◌-◌, ◌≤◌, ◌<◌}
use mathlib.Core.Path.{◌≡◌, refl, ap, ◌∙◌, subst}
use mathlib.Core.Bool.{Bool, true, false}
use mathlib.Core.List.{List, [], ◌∷◌, ◌++◌}
use native.Mathlib.Omega.{arith}
use lib.ListN.{length, drop, length-append, length-take, length-drop}
use Rattle.motorist.specs.Instance.{Instance, Sound, text_rate}
use Rattle.motorist.specs.Piston.{Bytes}
use Rattle.motorist.specs.Engine.{States, Blocks, Round, text_left, text_after, meta_after, goes_on, inject_start, text_fit, meta_fit, deal, round, plan, Ride, crypt, fill, absorbs, run, ride, group}
use Rattle.motorist.specs.Rode.{Rode}
use Rattle.motorist.specs.Motorist.{Start, Message, knots, ends, chains, fresh, knot, start, message}
use Rattle.motorist.proofs.Xors.{length-xors}
use Rattle.motorist.proofs.Plans.{Planned, last, more, planned, round_left, text_after_length}

-- a round takes no more of n bytes of text than there are
abbrev pub Within : Round → ℕ → Type 0
Within [] n = Unit {0}
Within (p ∷ ps) n = (p.text ≤ n) × Within ps (n - p.text)

deal-within : (i : Instance) (from at t m : ℕ) (es : List ℕ) → Within (deal i from at t m es) t
deal-within i from at t m [] = tt
deal-within i from at t m (e ∷ es) = (omega arith, deal-within i from 0 (t - text_fit i at t) (m - meta_fit i from m) es)

pub round-within : (i : Instance) (at t m : ℕ) (es : List ℕ) → Within (round i at t m es) t
unfolding round
round-within i at t m es = deal-within i (inject_start i t) at t m es

-- the output of a round is as long as the text it takes
crypt-length : (r : Round) (ss : States) (t : Bytes) → Within r (length t) → length (crypt r ss t) + text_left r (length t) ≡ length t
crypt-length [] ss t w = omega arith
crypt-length (p ∷ ps) ss t w =
    let ih = crypt-length ps (drop 1 ss) (drop p.text t) (rw length-drop w.1) in
    rw (length-append, length-xors, length-take) (omega (arith, rw length-drop at ih))

module _ (i : Instance) (f : Bytes → Bytes) where
  pub run-append : (ss : States) (bs cs : List Blocks) → run i f ss (bs ++ cs) ≡ run i f (run i f ss bs) cs
  run-append ss [] cs = refl
  run-append ss (b ∷ bs) cs = run-append (absorbs i f ss b) bs cs

  module _ (decrypt : Bool) where
    pub ride_blocks : (rs : List Round) (ss : States) (t m : Bytes) → length (ride i f decrypt rs ss t m).blocks ≡ length rs
    ride_blocks [] ss t m = refl
    ride_blocks (r ∷ rs) ss t m = ap suc (ride_blocks rs _ (text_after r t) (meta_after r m))

    pub ride-run : (rs : List Round) (ss : States) (t m : Bytes) → (ride i f decrypt rs ss t m).states ≡ run i f ss (ride i f decrypt rs ss t m).blocks
    ride-run [] ss t m = refl
    ride-run (r ∷ rs) ss t m = ride-run rs _ (text_after r t) (meta_after r m)

    ride_output : {es : List ℕ} {at t m : ℕ} {rs : List Round} → Planned i es at t m rs → (ss : States) (text meta : Bytes) → length text ≡ t
        → length (ride i f decrypt rs ss text meta).output ≡ length text
    ride_output {es} (last {at = at} {t = t} {m = m} h p q) ss text meta e =
        let r : Round = round i at t m es in
        let w = crypt-length (round i at t m es) ss text (rw e (round-within i at t m es)) in
        let z : text_left r (length text) ≡ 0 = rw e ((round_left i at t m es).0 ∙ p) in
        rw length-append (omega arith)
    ride_output {es} (more {at = at} {t = t} {m = m} h g ps) ss text meta e =
        let r : Round = round i at t m (goes_on es) in
        let w = crypt-length r ss text (rw e (round-within i at t m (goes_on es))) in
        let l : length (text_after r text) ≡ text_left r (length text) = text_after_length r text in
        let ih = ride_output ps (absorbs i f ss (fill i decrypt r ss text meta)) (text_after r text) (meta_after r meta) (l ∙ rw e) in
        rw (length-append, ih) (omega arith)

  -- ---- the states after a knot, a start and a message are those that its blocks lead to
  knot-run : (k : Bool) (g : List ℕ → Ride) (ss : States) (es : List ℕ) → ((x : List ℕ) → (g x).states ≡ run i f ss (g x).blocks)
      → (knot i f k g es).states ≡ run i f ss (knot i f k g es).blocks
  knot-run false g ss es own = own es
  knot-run true g ss es own = rw (own (chains i), run-append)

  pub start_run : (a : Start) → (start i f a).states ≡ run i f (fresh i) (start i f a).blocks
  unfolding start
  start_run a = knot-run a.forgets _ (fresh i) (ends i a.tagged) (λ es. refl)

  pub message_run : (decrypt : Bool) (ss : States) (at : ℕ) (g : Message) → (message i f decrypt ss at g).states ≡ run i f ss (message i f decrypt ss at g).blocks
  unfolding message
  message_run decrypt ss at g = knot-run (knots i g) _ ss (ends i true) (λ es. ride-run decrypt (plan i at (length g.text) (length g.meta) es) ss g.text g.meta)

  -- ---- the output of a message is as long as its text
  module _ (ok : Sound i) (decrypt : Bool) (ss : States) (at : ℕ) (ha : at < text_rate i) where
    pub group_output : (t m : Bytes) (e : ℕ) (es : List ℕ) → length (group i f decrypt ss at t m (e ∷ es)).output ≡ length t
    group_output t m e es = ride_output decrypt (planned i ok e es at (length t) (length m) ha) ss t m refl

    pub message_output : (g : Message) → length (message i f decrypt ss at g).output ≡ length g.text
    unfolding message
    message_output g = go (knots i g)
      where
        go : (k : Bool) → length (knot i f k (group i f decrypt ss at g.text g.meta) (ends i true)).output ≡ length g.text
        go true = group_output g.text g.meta _ _
        go false = group_output g.text g.meta _ _

-- what code shows of a ride it shows of any that is equal
pub rode_as : {r q : Ride} {t n : ℕ} {d s o : Bytes} → r ≡ q → Rode r t d s o n → Rode q t d s o n
rode_as {r} {q} {t} {n} {d} {s} {o} e h = subst (λ (x : Ride). Rode x t d s o n) e h
