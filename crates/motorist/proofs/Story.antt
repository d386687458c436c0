-- The blocks tell the whole story. Two sessions of one instance with equal lists of blocks have the same key, nonce and start choices, and the same
-- messages in the same order, with the same choice at each: at one Piston in full, and at several up to what shows.
-- The list is that of the steps which wrap and unwrap, and the states which they thread are those that the list leads to from all zeros.
use Prim.Native.Nat.{ℕ, ◌<◌}
use mathlib.Core.Path.{◌≡◌, refl, sym, ap, ◌∙◌}
use mathlib.Core.Bool.{Bool, true, false}
use mathlib.Core.List.{List, [], ◌∷◌, ◌++◌, map, append_assoc, append-nil}
use Rattle.motorist.specs.Instance.{Instance, Sound, solo, pistons, text_rate, tag_len}
use Rattle.motorist.specs.Piston.{Bytes}
use Rattle.motorist.specs.Engine.{States, Blocks, Ride, run, group}
use Rattle.motorist.specs.Motorist.{Start, Message, Keyed, taken, fresh, suv, diversify, knots, inject, start, message}
use Rattle.motorist.specs.Session.{Step, step, plaintext_of, Steps, steps, wrap_all, session_blocks, session_states}
use Rattle.motorist.specs.Reader.{Group, starting, inside, read, as_message, decode, shown}
use Rattle.motorist.proofs.KeyPack.{start_back}
use Rattle.motorist.proofs.Plans.{taken_fits}
use Rattle.motorist.proofs.Reading.{group-read, start_read, knot-read}
use Rattle.motorist.proofs.Rides.{run-append, start_run, message_run}
use Rattle.motorist.proofs.RoundTrip.{wrap-unwrap}

-- where the text after the messages starts
abbrev pub next_text : ℕ → List Message → ℕ
next_text at [] = at
next_text at (g ∷ gs) = next_text tag_len gs

-- steps that come to the same messages, tags, blocks and states
pub record Told (x y : Steps) : Type 0 where
  pub messages : x.messages ≡ y.messages
  pub tags : x.tags ≡ y.tags
  pub blocks : x.blocks ≡ y.blocks
  pub states : x.states ≡ y.states

module _ (i : Instance) where
  abbrev group_of : Message → Group
  group_of g = record { text = g.text; meta = g.meta; forgets = knots i g; tagged = true }

  messages_of : (gs : List Message) (rest : List Group) → map (as_message i) (map group_of gs ++ rest) ≡ map (shown i) gs ++ map (as_message i) rest
  messages_of [] rest = refl
  messages_of (g ∷ gs) rest = ap {B = List Message} (λ r. shown i g ∷ r) (messages_of gs rest)

  module _ (ok : Sound i) (f : Bytes → Bytes) where
    -- ---- the blocks are read back
    messages_read : (ss : States) (at : ℕ) (gs : List Message) (rest : List Blocks) → at < text_rate i
        → read i (inside at [] []) ((steps i f ss at (map (step false) gs)).blocks ++ rest) ≡ map group_of gs ++ read i (inside (next_text at gs) [] []) rest
    unfolding message
    messages_read ss at [] rest ha = refl
    messages_read ss at (g ∷ gs) rest ha =
        rw (
          append_assoc,
          knot-read i ok f (inside at [] []) (inside 0 g.text g.meta) (group i f false ss at g.text g.meta) g.text g.meta (knots i g) true _
              (λ e es more. group-read i ok f ss at g.text g.meta e es more ha),
        )
        (ap {B = List Group} (λ r. group_of g ∷ r) (messages_read (message i f false ss at g).states tag_len gs rest ok.tag_fits))

    -- the blocks of a session with more behind them: the session, and more messages
    pub session_read : (a : Start) (gs : List Message) (rest : List Blocks) → Keyed a
        → decode i (session_blocks i f a gs ++ rest)
        ≡ (a, map (shown i) gs ++ map (as_message i) (read i (inside (next_text (taken a.tagged) gs) [] []) rest))
    unfolding session_blocks start
    session_read a gs rest k =
        let m : Bytes = suv i a ++ (pistons i ∷ 0 ∷ []) in
        rw (
          append_assoc (start i f a).blocks (wrap_all i f a gs).blocks rest,
          knot-read i ok f (starting []) (starting m) (inject i f (fresh i) (diversify i (pistons i) 0 (suv i a))) [] m a.forgets a.tagged _
              (λ e es more. start_read i ok m _ e es more),
          messages_read _ (taken a.tagged) gs rest (taken_fits i ok a.tagged),
          messages_of,
          start_back i ok a k (pistons i) 0,
        )

    pub session_back : (a : Start) (gs : List Message) → Keyed a → decode i (session_blocks i f a gs) ≡ (a, map (shown i) gs)
    session_back a gs k =
        ap (decode i) (sym (append-nil (session_blocks i f a gs))) ∙ session_read a gs [] k ∙ (λ j. (a, append-nil (map (shown i) gs) j))

    -- ---- demand 3, at any number of Pistons
    pub same_session : (a b : Start) (gs hs : List Message) → Keyed a → Keyed b → session_blocks i f a gs ≡ session_blocks i f b hs
        → (a ≡ b) × (map (shown i) gs ≡ map (shown i) hs)
    same_session a b gs hs ka kb e =
        let p : ◌≡◌ {A = Start × List Message} (a, map (shown i) gs) (b, map (shown i) hs) = sym (session_back a gs ka) ∙ ap (decode i) e ∙ session_back b hs kb in
        (ap (λ q. q.0) p, ap (λ q. q.1) p)

    -- ---- the states
    pub steps_run : (ss : States) (at : ℕ) (xs : List Step) → (steps i f ss at xs).states ≡ run i f ss (steps i f ss at xs).blocks
    steps_run ss at [] = refl
    steps_run ss at (x ∷ xs) = rw (run-append, ← message_run i f x.decrypt ss at x.message) (steps_run (message i f x.decrypt ss at x.message).states tag_len xs)

    -- steps that wrap and unwrap come to what wrapping their plaintexts comes to
    step_told : (ss : States) (at : ℕ) (x : Step) → at < text_rate i
        → (let r : Ride = message i f x.decrypt ss at x.message in
        let z : Ride = message i f false ss at (plaintext_of x r.output) in
        (z.blocks ≡ r.blocks) × (z.states ≡ r.states))
    step_told ss at x ha = go x.decrypt
      where
        go : (d : Bool)
            → (let r : Ride = message i f d ss at x.message in
            let z : Ride = message i f false ss at (plaintext_of (step d x.message) r.output) in
            (z.blocks ≡ r.blocks) × (z.states ≡ r.states))
        go false = (refl, refl)
        go true = let p = wrap-unwrap i ok f ss at x.message ha in (ap (λ (y : Ride). y.blocks) p, ap (λ (y : Ride). y.states) p)

    pub steps_told : (ss : States) (at : ℕ) (xs : List Step) → at < text_rate i
        → Told (steps i f ss at (map (step false) (steps i f ss at xs).messages)) (steps i f ss at xs)
    steps_told ss at [] ha = record { messages = refl; tags = refl; blocks = refl; states = refl }
    steps_told ss at (x ∷ xs) ha =
        let r : Ride = message i f x.decrypt ss at x.message in
        let p = step_told ss at x ha in
        let ih = steps_told r.states tag_len xs ok.tag_fits in
        record {
          messages = rw (p.1, ih.messages);
          tags = rw (p.1, ih.tags);
          blocks = rw (p.0, p.1, ih.blocks);
          states = ap (λ s. (steps i f s tag_len (map (step false) (steps i f r.states tag_len xs).messages)).states) p.1 ∙ ih.states;
        }

    -- a start and then any steps: the blocks are those of the session of their plaintexts, and the states those that they lead to from all zeros
    pub session_steps : (a : Start) (xs : List Step)
        → (let y : Steps = steps i f (start i f a).states (taken a.tagged) xs in
        ((start i f a).blocks ++ y.blocks ≡ session_blocks i f a y.messages) × (y.states ≡ run i f (fresh i) (session_blocks i f a y.messages)))
    unfolding session_blocks
    session_steps a xs =
        let t = steps_told (start i f a).states (taken a.tagged) xs (taken_fits i ok a.tagged) in
        (rw t.blocks, rw (t.blocks, run-append, ← start_run i f a) (steps_run (start i f a).states (taken a.tagged) xs))

    pub session_run : (a : Start) (gs : List Message) → session_states i f a gs ≡ run i f (fresh i) (session_blocks i f a gs)
    unfolding session_blocks session_states
    session_run a gs = rw (run-append, ← start_run i f a) (steps_run (start i f a).states (taken a.tagged) (map (step false) gs))

-- ---- demand 3, at one Piston: all shows
pub all_shown : (b w c : ℕ) (gs : List Message) → map (shown (solo b w c)) gs ≡ gs
all_shown b w c [] = refl
all_shown b w c (g ∷ gs) = ap {B = List Message} (λ r. g ∷ r) (all_shown b w c gs)

pub same_messages : (b w c : ℕ) (f : Bytes → Bytes) → Sound (solo b w c) → (x y : Start) (gs hs : List Message) → Keyed x → Keyed y
    → session_blocks (solo b w c) f x gs ≡ session_blocks (solo b w c) f y hs → (x ≡ y) × (gs ≡ hs)
same_messages b w c f ok x y gs hs kx ky e =
    let p = same_session (solo b w c) ok f x y gs hs kx ky e in
    (p.0, sym (all_shown b w c gs) ∙ p.1 ∙ all_shown b w c hs)
