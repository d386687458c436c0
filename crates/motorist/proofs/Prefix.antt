-- The prefix form of the story. If the blocks of one session are the front of another's, both start alike, and the messages of the first are the front of the
-- second's: at one Piston in full, and at several up to what shows.
use Prim.Native.Nat.{ℕ}
use mathlib.Core.Path.{◌≡◌, sym, ap, ◌∙◌}
use mathlib.Core.List.{List, [], ◌++◌, map}
use Rattle.motorist.specs.Instance.{Instance, Sound, solo}
use Rattle.motorist.specs.Piston.{Bytes}
use Rattle.motorist.specs.Engine.{Blocks}
use Rattle.motorist.specs.Motorist.{Start, Message, Keyed, taken}
use Rattle.motorist.specs.Session.{session_blocks}
use Rattle.motorist.specs.Reader.{inside, read, as_message, decode, shown}
use Rattle.motorist.proofs.Story.{next_text, session_read, session_back, all_shown}

pub front_session : (i : Instance) → Sound i → (f : Bytes → Bytes) (a b : Start) (gs hs : List Message) (rest : List Blocks) → Keyed a → Keyed b
    → session_blocks i f a gs ++ rest ≡ session_blocks i f b hs
    → (a ≡ b) × ((others : List Message) × (map (shown i) gs ++ others ≡ map (shown i) hs))
front_session i ok f a b gs hs rest ka kb e =
    let others : List Message = map (as_message i) (read i (inside (next_text (taken a.tagged) gs) [] []) rest) in
    let p : ◌≡◌ {A = Start × List Message} (a, map (shown i) gs ++ others) (b, map (shown i) hs) = sym (session_read i ok f a gs rest ka) ∙ ap (decode i) e ∙ session_back i ok f b hs kb in
    (ap (λ q. q.0) p, (others, ap (λ q. q.1) p))

pub front_messages : (b w c : ℕ) (f : Bytes → Bytes) → Sound (solo b w c) → (x y : Start) (gs hs : List Message) (rest : List Blocks) → Keyed x → Keyed y
    → session_blocks (solo b w c) f x gs ++ rest ≡ session_blocks (solo b w c) f y hs
    → (x ≡ y) × ((others : List Message) × (gs ++ others ≡ hs))
front_messages b w c f ok x y gs hs rest kx ky e =
    let p = front_session (solo b w c) ok f x y gs hs rest kx ky e in
    (p.0, (p.1.0, ap (λ l. l ++ p.1.0) (sym (all_shown b w c gs)) ∙ p.1.1 ∙ all_shown b w c hs))
