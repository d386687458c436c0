-- The conditions of the rules in plain words: none of a message's or of a start's holds exactly where these do.
use mathlib.Core.Path.{◌≡◌, refl, ap}
use mathlib.Core.Bool.{Bool, true, false, not, ◌&&◌}
use mathlib.Core.Logic.{◌⊎◌, inl, inr}
use Prim.Native.Nat.{ℕ, ◌%◌, ◌<◌}
use native.Mathlib.Omega.{arith}
use borrow.Author.Tests.{ltb-false, le-ltb, leb-true, le-leb, eqb-true, eq-eqb, ne_eqb, not-false}
use lib.Dec.{leb, eqb}
use Rattle.table.specs.Refusals.{None}
use Rattle.table.specs.Choices.{asked, is_riding}
use Rattle.table.specs.declared.Phase.{Phase}
use Rattle.table.specs.declared.StartTag.{StartTag}
use Rattle.slices.proofs.Bools.{and_both, or_either}
use Rattle.motorist.specs.Instance.{Instance, Sound, text_rate, tag_len}
use Rattle.calls.specs.Session.{live}
use Rattle.calls.specs.Outcome.{message_rules, start_rules}
use Rattle.calls.specs.Allowed.{Allowed, AllowedStart}

-- ---- a message
pub allowed : (phase : Phase) (at t m d g : ℕ) → None (message_rules phase at t m d g) → Allowed phase at t m d g
allowed phase at t m d g h =
    record {
      session = not-false (live phase at) h.0;
      text = ltb-false 65535 t h.1.0;
      meta = ltb-false 65535 m h.1.1.0;
      output = ltb-false d t h.1.1.1.0;
      tag = eqb-true g tag_len (not-false (eqb g tag_len) h.1.1.1.1.0);
    }

pub none_refused : (phase : Phase) (at t m d g : ℕ) → Allowed phase at t m d g → None (message_rules phase at t m d g)
none_refused phase at t m d g a =
    (ap not a.session, (le-ltb 65535 t a.text, (le-ltb 65535 m a.meta, (le-ltb d t a.output, (ap not (eq-eqb g tag_len a.tag), tt)))))

-- ---- a start
pub allowed_start_lem : (k n : ℕ) (choice : StartTag) (g : ℕ) → None (start_rules k n choice g) → AllowedStart k n choice g
allowed_start_lem k n choice g h =
    let key = and_both (leb 16 k) (leb k 32) (not-false (leb 16 k && leb k 32) h.0) in
    record {
      long = leb-true 16 k key.0;
      short = leb-true k 32 key.1;
      nonce = ltb-false 1024 n h.1.0;
      tag = λ e. eqb-true g tag_len (not-false (eqb g tag_len) (rw e at h.1.1.0));
    }

pub none_refused_start : (k n : ℕ) (choice : StartTag) (g : ℕ) → AllowedStart k n choice g → None (start_rules k n choice g)
none_refused_start k n choice g a =
    (rw (le-leb 16 k a.long, le-leb k 32 a.short), (le-ltb 1024 n a.nonce, (tagged (asked choice) a.tag, tt)))
  where
    tagged : (b : Bool) → (b ≡ true → g ≡ tag_len) → (b && not (eqb g tag_len)) ≡ false
    tagged true e = ap not (eq-eqb g tag_len (e refl))
    tagged false e = refl

-- ---- a session that may be used has a text start that leaves room
pub live_fits : (i : Instance) → Sound i → (phase : Phase) (at : ℕ) → live phase at ≡ true → at < text_rate i
live_fits i ok phase at e = go (or_either (eqb at 0) (eqb at tag_len) (and_both (is_riding phase) _ e).1)
  where
    go : (eqb at 0 ≡ true) ⊎ (eqb at tag_len ≡ true) → at < text_rate i
    go (inl h) = let z : at ≡ 0 = eqb-true at 0 h in omega (arith, ok.tag_fits)
    go (inr h) = let z : at ≡ tag_len = eqb-true at tag_len h in omega (arith, ok.tag_fits)

-- one with another text start may not be used
pub elsewhere : (phase : Phase) (at : ℕ) → (at ≡ 0 → ⊥) → (at ≡ tag_len → ⊥) → live phase at ≡ false
elsewhere phase at p q = rw (ne_eqb at 0 p, ne_eqb at tag_len q) (go (is_riding phase))
  where
    go : (b : Bool) → (b && false) ≡ false
    go true = refl
    go false = refl

-- and is the first byte of a lane of w bytes
pub live-lane : (w : ℕ) → 0 % w ≡ 0 → tag_len % w ≡ 0 → (phase : Phase) (at : ℕ) → live phase at ≡ true → at % w ≡ 0
live-lane w z l phase at e = go (or_either (eqb at 0) (eqb at tag_len) (and_both (is_riding phase) _ e).1)
  where
    go : (eqb at 0 ≡ true) ⊎ (eqb at tag_len ≡ true) → at % w ≡ 0
    go (inl h) = rw (eqb-true at 0 h) z
    go (inr h) = rw (eqb-true at tag_len h) l
