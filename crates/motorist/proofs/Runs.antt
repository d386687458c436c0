-- How many rounds a group has; and at one Piston, how many permutation runs a message and a start take, over the instance and the place where the text starts.
use Rattle.motorist.specs.Runs.{text_rounds, meta_rounds, rounds, runs, knot_runs, u, v}
use Prim.Native.Nat.{ℕ, zero, suc, ◌+◌, ◌-◌, ◌*◌, ◌/◌, ◌≤◌, ◌<◌, min, max}
use mathlib.Core.Path.{◌≡◌, sym, ap, ◌∙◌}
use mathlib.Core.Bool.{Bool, true, false}
use mathlib.Core.List.{List, [], ◌∷◌, ◌++◌}
use native.Mathlib.Omega.{arith}
use native.Mathlib.Nat.{add-zero, div-eq_of_lt, div-eq-sub-div, zero-mul, suc-mul, mul-suc, mul-zero, mul-one, one-mul, sub-zero}
use native.Mathlib.Decide.{dec_le}
use lib.ListN.{length, replicate, length-append}
use Rattle.motorist.specs.Instance.{Instance, Sound, solo, lake, round_up, text_rate, full_rate, chain_length, pack_length, tag_len, state_length}
use Rattle.motorist.specs.Piston.{Bytes, eom}
use Rattle.motorist.specs.Engine.{Round, text_left, meta_left, text_fit, meta_fit, goes_on, inject_start, deal, round, plan, States, Ride, group}
use Rattle.motorist.specs.Motorist.{Start, Message, Keyed, suv, taken, start, message}
use Rattle.motorist.proofs.Plans.{goes_on_length, left_text, left_meta, Planned, last, more, planned}
use Rattle.motorist.proofs.Rides.{ride_blocks}
use Rattle.motorist.proofs.OnePiston.{one_knot, start_one, message_one}
use Rattle.motorist.proofs.KeyPack.{length-suv}
use Rattle.motorist.proofs.Instances.{lake_sound}

-- ---- rounding up
up_zero : (d : ℕ) → 0 < d → round_up 0 d ≡ 0
up_zero d h = div-eq_of_lt (omega arith)

up_more : (n d : ℕ) → 0 < n → 0 < d → round_up n d ≡ suc (round_up (n - d) d)
up_more n d hn hd = div-eq-sub-div hd (omega arith) ∙ go (dec_le d n)
  where
    go : Dec (d ≤ n) → (n + (d - 1) - d) / d + 1 ≡ suc (round_up (n - d) d)
    go (yes h) = let e : n + (d - 1) - d ≡ n - d + (d - 1) = omega arith in rw e (omega arith)
    go (no h) =
        let e : n - d ≡ 0 = omega arith in
        rw (e, up_zero d hd, div-eq_of_lt {n = n + (d - 1) - d} {m = d} (omega arith))

up_one : (n d : ℕ) → 0 < n → n ≤ d → round_up n d ≡ 1
up_one n d hn hd = let e : n - d ≡ 0 = omega arith in up_more n d hn (omega arith) ∙ rw (e, up_zero d (omega arith))

-- ---- the formula
-- what one round takes of the metadata, with t bytes of text to deal
abbrev takes : ℕ → ℕ → ℕ → ℕ
takes e g zero = e
takes e g (suc t) = g

module _ (d e g : ℕ) (hd : 0 < d) (he : 0 < e) where
  text_up : (t : ℕ) → text_rounds d 0 t ≡ round_up t d
  text_up zero = sym (up_zero d hd)
  text_up (suc t) = rw add-zero

  text_more : (at t : ℕ) → at < d → text_rounds d at (suc t) ≡ suc (text_rounds d 0 (suc t - (d - at)))
  text_more at t h =
      let x : suc t + at - d ≡ suc t - (d - at) = omega arith in
      up_more (suc t + at) d (omega arith) hd ∙ rw (x, text_up (suc t - (d - at)))

  one_round : (at t m : ℕ) → at < d → t - (d - at) ≡ 0 → m - takes e g t ≡ 0 → rounds d e g at t m ≡ 1
  unfolding rounds
  one_round at zero zero h p q = let x : 0 - g * 0 ≡ 0 = omega arith in rw (x, up_zero e he)
  one_round at zero (suc m) h p q = let x : suc m - g * 0 ≡ suc m = rw mul-zero (omega arith) in rw (x, up_one (suc m) e (omega arith) (omega arith))
  one_round at (suc t) m h p q =
      let x : m - g * 1 ≡ 0 = rw mul-one (omega arith) in
      rw (text_more at t h, p, x, up_zero e he)

  some_rounds : (t m : ℕ) → 0 < t + m → 1 ≤ text_rounds d 0 t + meta_rounds e g (text_rounds d 0 t) m
  some_rounds zero m h = let x : m - g * 0 ≡ m = rw mul-zero (omega arith) in rw (x, up_more m e (omega arith) he) (omega arith)
  some_rounds (suc t) m h = rw (add-zero, up_more (suc t) d (omega arith) hd) (omega arith)

  more_rounds : (at t m : ℕ) → at < d → 0 < (t - (d - at)) + (m - takes e g t) → rounds d e g at t m ≡ suc (rounds d e g 0 (t - (d - at)) (m - takes e g t))
  unfolding rounds
  more_rounds at zero m h p =
      let x : 0 - (d - at) ≡ 0 = omega arith in
      let y : m - g * 0 ≡ m = rw mul-zero (omega arith) in
      let z : m - e - g * 0 ≡ m - e = rw mul-zero (omega arith) in
      let u : 1 ≤ round_up (m - e) e = rw (up_more (m - e) e (omega arith) he) (omega arith) in
      rw (x, y, z, up_more m e (omega arith) he) (omega arith)
  more_rounds at (suc t) m h p =
      let u : ℕ = text_rounds d 0 (suc t - (d - at)) in
      let x : m - g * suc u ≡ m - g - g * u = rw mul-suc (omega arith) in
      rw (text_more at t h, x) (omega (arith, some_rounds (suc t - (d - at)) (m - g) p))

-- metadata alone
meta_rounds_lem : (d e g m : ℕ) → 0 < m → 0 < e → rounds d e g 0 0 m ≡ round_up m e
unfolding rounds
meta_rounds_lem d e g m hm he = let x : m - g * 0 ≡ m = rw mul-zero (omega arith) in rw (x, up_more m e hm he) (omega arith)

-- ---- what n Pistons take in a round
sub_min : (t x : ℕ) → t - min x t ≡ t - x
sub_min t x = omega arith

sub_sub : (t r at p : ℕ) → at ≤ r → t - (r - at) - (p - 0) ≡ t - (p + r - at)
sub_sub t r at p h = omega arith

module _ (i : Instance) where
  deal_text : (from at t m : ℕ) (es : List ℕ) → at ≤ text_rate i → text_left (deal i from at t m es) t ≡ t - (length es * text_rate i - at)
  deal_text from at t m [] h = rw zero-mul (omega arith)
  deal_text from at t m (e ∷ es) h =
      rw (suc-mul, deal_text from 0 (t - text_fit i at t) (m - meta_fit i from m) es (omega arith), sub_min t (text_rate i - at)) (sub_sub t (text_rate i) at (length es * text_rate i) h)

  deal_meta : (from at t m : ℕ) (es : List ℕ) → meta_left (deal i from at t m es) m ≡ m - length es * (full_rate i - from)
  deal_meta from at t m [] = rw zero-mul (omega arith)
  deal_meta from at t m (e ∷ es) = rw (suc-mul, deal_meta from 0 (t - text_fit i at t) (m - meta_fit i from m) es, sub_min m (full_rate i - from)) (omega arith)

  -- a round of n Pistons takes so much text, so much metadata alone, and so much beside text
  abbrev rounds_for : ℕ → ℕ → ℕ → ℕ → ℕ
  rounds_for n at t m = rounds (n * text_rate i) (n * full_rate i) (n * (full_rate i - text_rate i)) at t m

  module _ (ok : Sound i) (e : ℕ) (es : List ℕ) where
    abbrev n : ℕ
    n = suc (length es)

    -- room for some
    rooms : (text_rate i ≤ n * text_rate i) × (0 < n * text_rate i) × (0 < n * full_rate i)
    rooms = simp suc-mul (omega (arith, ok.tag_fits, ok.text_fits))

    text_takes : (at t m : ℕ) → at < text_rate i → left_text i at t m (e ∷ es) ≡ t - (n * text_rate i - at)
    unfolding round
    text_takes at t m h = deal_text (inject_start i t) at t m (goes_on (e ∷ es)) (omega arith) ∙ rw (goes_on_length es)

    meta_takes : (at t m : ℕ) → left_meta i at t m (e ∷ es) ≡ m - takes (n * full_rate i) (n * (full_rate i - text_rate i)) t
    unfolding round
    meta_takes at zero m = deal_meta 0 at 0 m (goes_on (e ∷ es)) ∙ rw (goes_on_length es, sub-zero)
    meta_takes at (suc t) m = deal_meta (text_rate i) at (suc t) m (goes_on (e ∷ es)) ∙ rw (goes_on_length es)

    pub plan-rounds : {at t m : ℕ} {rs : List Round} → Planned i (e ∷ es) at t m rs → length rs ≡ rounds_for n at t m
    plan-rounds (last {at = at} {t = t} {m = m} h p q) =
        sym (one_round (n * text_rate i) (n * full_rate i) (n * (full_rate i - text_rate i)) rooms.1 rooms.2 at t m (omega (arith, rooms.0)) (sym (text_takes at t m h) ∙ p) (sym (meta_takes at t m) ∙ q))
    plan-rounds (more {at = at} {t = t} {m = m} h g ps) =
        let ih = rw (text_takes at t m h, meta_takes at t m) at (plan-rounds ps) in
        let g' = rw (text_takes at t m h, meta_takes at t m) at g in
        ap suc ih ∙ sym (more_rounds (n * text_rate i) (n * full_rate i) (n * (full_rate i - text_rate i)) rooms.1 rooms.2 at t m (omega (arith, rooms.0)) g')

    pub group-rounds : (f : Bytes → Bytes) (decrypt : Bool) (ss : States) (at : ℕ) (t m : Bytes) → at < text_rate i
        → length (group i f decrypt ss at t m (e ∷ es)).blocks ≡ rounds_for n at (length t) (length m)
    group-rounds f decrypt ss at t m h = ride_blocks i f decrypt (plan i at (length t) (length m) (e ∷ es)) ss t m ∙ plan-rounds (planned i ok e es at (length t) (length m) h)

-- ---- one Piston
module _ (b w c : ℕ) (f : Bytes → Bytes) (ok : Sound (solo b w c)) where
  abbrev one : Instance
  one = solo b w c

  pub group_runs : (decrypt : Bool) (s : Bytes) (at : ℕ) (t m : Bytes) (e : ℕ) → at < text_rate one
      → length (group one f decrypt (s ∷ []) at t m (e ∷ [])).blocks ≡ runs one at (length t) (length m)
  group_runs decrypt s at t m e h = rw (one-mul (text_rate one), one-mul (full_rate one), one-mul (full_rate one - text_rate one)) at (group-rounds one ok e [] f decrypt (s ∷ []) at t m h)

  knot_runs_lem : (k : Bool) (g : ℕ → Ride) (e n : ℕ) → ((x : ℕ) → length (g x).blocks ≡ n) → length (one_knot b w c f k g e).blocks ≡ n + knot_runs k
  knot_runs_lem true g e n h = rw length-append (ap (λ x. x + 1) (h (chain_length one)))
  knot_runs_lem false g e n h = h e ∙ omega arith

  -- a message
  pub message_runs : (decrypt : Bool) (s : Bytes) (at : ℕ) (g : Message) → at < text_rate one
      → length (message one f decrypt (s ∷ []) at g).blocks ≡ runs one at (length g.text) (length g.meta) + knot_runs g.forgets
  message_runs decrypt s at g h = rw (message_one b w c f ok decrypt s at g h) (knot_runs_lem g.forgets _ tag_len _ (λ e. group_runs decrypt s at g.text g.meta e h))

  -- a start: what goes in is the key pack, the nonce and two bytes
  pub start_runs : (a : Start) → Keyed a → length (start one f a).blocks ≡ round_up (pack_length one + length a.nonce + 2) (full_rate one) + knot_runs a.forgets
  start_runs a k =
      let m : Bytes = suv one a ++ (1 ∷ 0 ∷ []) in
      let l : length m ≡ pack_length one + length a.nonce + 2 = length-suv one ok a k 1 0 in
      let r : runs one 0 0 (length m) ≡ round_up (pack_length one + length a.nonce + 2) (full_rate one)
      = rw l (meta_rounds_lem (text_rate one) (full_rate one) (full_rate one - text_rate one) (pack_length one + length a.nonce + 2) (omega arith) (omega (arith, ok.tag_fits, ok.text_fits))) in
      rw (start_one b w c f ok a)
      (knot_runs_lem a.forgets _ (eom (taken a.tagged)) _ (λ e. group_runs false (replicate (state_length one) 0) 0 [] m e (omega (arith, ok.tag_fits)) ∙ r))

-- 01's sentence, at Lake after a tag
pub lake_runs : (f : Bytes → Bytes) (decrypt : Bool) (s text meta : Bytes)
    → length (message lake f decrypt (s ∷ []) 16 (record { text = text; meta = meta; forgets = false })).blocks
    ≡ max 1 (u (length text) + v (length text) (length meta))
unfolding rounds text_rate full_rate
lake_runs f decrypt s text meta =
    message_runs 1600 64 256 f lake_sound decrypt s 16 _ lake_sound.tag_fits
    ∙ add-zero (runs lake 16 (length text) (length meta))
