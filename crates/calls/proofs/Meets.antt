-- What the code of an instance has to show, over any instance. Of a thin call: the number that it found refuses it, or its work is the
-- definition's. Of the work: what came of a ride is what the definition says of it. Lake and River cite these.
use mathlib.Core.Path.{◌≡◌, refl, sym, ap, ◌∙◌}
use mathlib.Core.Bool.{Bool, true, false}
use mathlib.Core.List.{List, [], ◌∷◌}
use Prim.Native.Nat.{ℕ, ◌*◌, ◌%◌, ◌^◌, ◌≤◌, ◌<◌}
use native.Mathlib.Omega.{arith}
use lib.ListN.{length, get_or, take, drop, length-append, length-drop}
use lib.Seq.{drop_at}
use Rattle.keccak.specs.State.{bytes, lanes_from}
use Rattle.keccak.proofs.State.{lanes_bytes}
use Rattle.table.specs.Refusals.{first, if_done}
use Rattle.table.specs.Choices.{asked}
use Rattle.table.specs.declared.Phase.{Phase}
use Rattle.table.specs.declared.StartTag.{StartTag}
use Rattle.table.specs.declared.StartTag.TheVariants.{None, Produced, Checked}
use Rattle.table.proofs.Exact.{exact, is_done, not_done}
use Rattle.slices.specs.Same.{same_bytes}
use Rattle.motorist.specs.Instance.{Instance, Sound, text_rate, tag_len}
use Rattle.motorist.specs.Piston.{Bytes}
use Rattle.motorist.specs.Engine.{Ride, States}
use Rattle.motorist.specs.Rode.{Rode}
use Rattle.motorist.specs.Motorist.{Message, tag, start, wrap, unwrap}
use Rattle.calls.specs.Session.{View, Records}
use Rattle.calls.specs.Outcome.{refused, message_rules, start_rules, wrap_rules, start_rules_of, wrapped, unwrapped, checked, started, wrap_of, unwrap_of, start_of}
use Rattle.calls.specs.Allowed.{Allowed, AllowedStart}
use Rattle.calls.specs.Ends.{Began, onward, judged, withheld}
use Rattle.calls.proofs.Allowed.{allowed, allowed_start_lem, live_fits, live-lane}

-- lanes are those of their bytes, w bytes a lane
pub lanes_back : (w n : ℕ) (l : List ℕ) → length l ≡ n → ((i : ℕ) → get_or l i 0 < 2 ^ (8 * w)) → lanes_from w n (bytes w l) ≡ l
lanes_back w n l e h = rw (← e) (lanes_bytes w l h)

-- ---- where no refusal was found
pub message_allowed : {phase : Phase} {at t m d g why : ℕ} → why ≡ first (message_rules phase at t m d g) → why ≡ 0 → Allowed phase at t m d g
message_allowed {phase} {at} {t} {m} {d} {g} e z = allowed phase at t m d g ((exact (message_rules phase at t m d g) (omega arith)).done.0 (sym e ∙ z))

pub start_allowed : {k n : ℕ} {choice : StartTag} {g why : ℕ} → why ≡ first (start_rules k n choice g) → why ≡ 0 → AllowedStart k n choice g
start_allowed {k} {n} {choice} {g} e z = allowed_start_lem k n choice g ((exact (start_rules k n choice g) (omega arith)).done.0 (sym e ∙ z))

-- its text start leaves room in a block, and is the first byte of a lane of w bytes
pub text_fits_lem : {phase : Phase} {at t m d g : ℕ} (i : Instance) → Sound i → Allowed phase at t m d g → at < text_rate i
text_fits_lem {phase} {at} i ok a = live_fits i ok phase at a.session

pub text_lane : {phase : Phase} {at t m d g : ℕ} (w : ℕ) → 0 % w ≡ 0 → tag_len % w ≡ 0 → Allowed phase at t m d g → at % w ≡ 0
text_lane {phase} {at} w z l a = live-lane w z l phase at a.session

-- ---- the thin calls: refused by the number that was found, or the work
if_done_lem : {A : Type 0} (why : ℕ) (new old : A) → why ≡ 0 → new ≡ if_done why new old
if_done_lem why new old e = sym (is_done why new old e)

if_refused : {A : Type 0} (why : ℕ) (new old : A) → (why ≡ 0 → ⊥) → old ≡ if_done why new old
if_refused why new old n = sym (not_done why new old n)

module _ {R : Type 0} (K : Records R) (i : Instance) (f : Bytes → Bytes) (x : R) (m : Message) (out g : Bytes) {why : ℕ}
    (found : why ≡ first (wrap_rules (K.shows x) m out g)) where
  abbrev v : View
  v = K.shows x

  pub wrap-refused : (why ≡ 0 → ⊥) → refused why x out g ≡ wrap_of K i f x m out g
  unfolding wrap_of
  wrap-refused n = rw (← found) (if_refused why _ _ n)

  pub unwrap-refused : (why ≡ 0 → ⊥) → refused why x out g ≡ unwrap_of K i f x m g out
  unfolding unwrap_of
  unwrap-refused n = rw (← found) (if_refused why _ _ n)

  pub wrap_done : why ≡ 0 → wrapped K (wrap i f (v.state ∷ []) v.at m) (length m.text) out ≡ wrap_of K i f x m out g
  unfolding wrap_of
  wrap_done z = rw (← found) (if_done_lem why _ _ z)

  pub unwrap_done : why ≡ 0
      → (let r : Ride = unwrap i f (v.state ∷ []) v.at m in
      unwrapped K (same_bytes (tag r.states) g) r (length m.text) out g) ≡ unwrap_of K i f x m g out
  unfolding unwrap_of
  unwrap_done z = rw (← found) (if_done_lem why _ _ z)

module _ {R : Type 0} (K : Records R) (i : Instance) (f : Bytes → Bytes) (key nonce : Bytes) (forgets : Bool) (choice : StartTag) (g : Bytes) {why : ℕ}
    (found : why ≡ first (start_rules_of key nonce choice g)) where
  pub start_refused : (why ≡ 0 → ⊥) → refused why K.unstarted [] g ≡ start_of K i f key nonce forgets choice g
  unfolding start_of
  start_refused n = rw (← found) (if_refused why _ _ n)

  pub start_done : why ≡ 0
      → started K choice (start i f (record { key = key; nonce = nonce; tagged = asked choice; forgets = forgets })) g ≡ start_of K i f key nonce forgets choice g
  unfolding start_of
  start_done z = rw (← found) (if_done_lem why _ _ z)

-- ---- the work of a message: of a ride came the state s, the output o and n runs
module _ {R : Type 0} (K : Records R) {r : Ride} {t : ℕ} {d s o : Bytes} {n : ℕ} (h : Rode r t d s o n) where
  pub wrapped_is : onward K true s t n o (take tag_len s) ≡ wrapped K r t d
  wrapped_is = rw (h.output, h.runs, ← h.states) refl

  pub unwrapped_is : (g : Bytes) → length o ≡ length d → t ≤ length d
      → judged K (same_bytes (take tag_len s) g) s t n (withheld (same_bytes (take tag_len s) g) t o) g ≡ unwrapped K (same_bytes (tag r.states) g) r t d g
  unwrapped_is g e le =
      let q : same_bytes (take tag_len s) g ≡ same_bytes (tag r.states) g = ap (λ (ss : States). same_bytes (tag ss) g) h.states in
      rw (← q) (go (same_bytes (take tag_len s) g))
    where
      l : length r.output ≡ t
      l = omega (arith, simp (length-append, length-drop) at (sym (ap length h.output) ∙ e))

      go : (b : Bool) → judged K b s t n (withheld b t o) g ≡ unwrapped K b r t d g
      go true = rw (h.output, h.runs, ← h.states) refl
      go false = rw (h.output, drop_at r.output (drop t d) t l) refl

-- ---- the work of a start: of a ride came the state s and n runs
module _ {R : Type 0} (K : Records R) {choice : StartTag} {r : Ride} {s : Bytes} {n : ℕ} (h : Began r s n) (g : Bytes) where
  pub begun_untagged : choice ≡ None → onward K false s 0 n [] g ≡ started K choice r g
  begun_untagged e = rw (e, h.runs, ← h.states) refl

  pub begun_produced : choice ≡ Produced → onward K true s 0 n [] (take tag_len s) ≡ started K choice r g
  begun_produced e = rw (e, h.runs, ← h.states) refl

  pub begun-checked : choice ≡ Checked → judged K (same_bytes (take tag_len s) g) s 0 n [] g ≡ started K choice r g
  begun-checked e =
      let q : same_bytes (take tag_len s) g ≡ same_bytes (tag r.states) g = ap (λ (ss : States). same_bytes (tag ss) g) h.states in
      rw (e, ← q) (go (same_bytes (take tag_len s) g))
    where
      go : (b : Bool) → judged K b s 0 n [] g ≡ checked K b r g
      go true = rw (h.runs, ← h.states) refl
      go false = refl
