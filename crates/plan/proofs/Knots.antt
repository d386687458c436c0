-- Metadata alone, knots, and from them a whole message and a whole start, over the states' bytes.
use mathlib.Core.Path.{◌≡◌, refl, sym, ap, ◌∙◌}
use mathlib.Core.Bool.{Bool, true, false}
use mathlib.Core.List.{[], ◌∷◌}
use Prim.Native.Nat.{ℕ, ◌+◌, ◌-◌, ◌≤◌, ◌<◌}
use native.Mathlib.Nat.{zero-add}
use native.Mathlib.Omega.{arith}
use lib.ListN.{length, take, drop, replicate, length-append, length-drop}
use lib.Seq.{drop-drop, take_all}
use Rattle.motorist.specs.Instance.{Instance, Sound, solo, state_length, text_rate, full_rate, chain_length, pack_length, tag_len}
use Rattle.motorist.specs.Piston.{Bytes, xors, block, absorb, eom}
use Rattle.motorist.specs.Engine.{Ride, group}
use Rattle.motorist.specs.Motorist.{taken, start, message}
use Rattle.motorist.proofs.OnePiston.{one_knot, knot_block, meta_last, meta_more, start_one, message_one}
use Rattle.piston.specs.Placed.{placed}
use Rattle.piston.proofs.Xors.{xors_nil}
use Rattle.piston.proofs.Block.{block_parts}
use Rattle.plan.specs.Start.{start_bytes, start_group}

module _ (b w c : ℕ) (f : Bytes → Bytes) (ok : Sound (solo b w c)) where
  abbrev one : Instance
  one = solo b w c

  -- one block of metadata alone: the metadata in, the offset bytes in, and permuted
  pub inject-step : (s m : Bytes) (e : ℕ) → length m ≤ full_rate one → (sr : Bytes)
      → sr ≡ f (xors (xors s (placed 0 m)) (placed (full_rate one) (e ∷ 0 ∷ 0 ∷ length m ∷ []))) → sr ≡ absorb f s (block one 0 [] 0 m e)
  inject-step s m e h sr er =
      let p = block_parts one s 0 [] 0 m e (omega arith) (omega arith) in
      er ∙ ap f (sym (rw (xors_nil s, zero-add (length m)) at p))

  -- ---- a knot, after the group g that ended for a chaining value in the state gs
  module _ (g : ℕ → Ride) (e : ℕ) (gs ks : Bytes) (n : ℕ) where
    pub knotted : gs ∷ [] ≡ (g (chain_length one)).states → n ≡ length (g (chain_length one)).blocks → ks ≡ absorb f gs (knot_block b w c f gs e)
        → (ks ∷ [] ≡ (one_knot b w c f true g e).states) × (n + 1 ≡ length (one_knot b w c f true g e).blocks)
    knotted hg hn hk =
        (ap (λ (x : Bytes). x ∷ []) hk ∙ rw (← hg) refl, rw (length-append (g (chain_length one)).blocks _, ← hn) refl)

  -- ---- a message
  module _ (decrypt : Bool) (s : Bytes) (at : ℕ) (t m : Bytes) (ha : at < text_rate one) where
    abbrev whole : Bool → Ride
    whole k = message one f decrypt (s ∷ []) at (record { text = t; meta = m; forgets = k })

    abbrev ended : ℕ → Ride
    ended e = group one f decrypt (s ∷ []) at t m (e ∷ [])

    pub message_plain : (k : Bool) → k ≡ false → ended tag_len ≡ whole k
    message_plain k h = rw h (sym (message_one b w c f ok decrypt s at (record { text = t; meta = m; forgets = false }) ha))

    pub message_knot : (k : Bool) (gs ks : Bytes) (n : ℕ) → k ≡ true → gs ∷ [] ≡ (ended (chain_length one)).states → n ≡ length (ended (chain_length one)).blocks
        → ks ≡ absorb f gs (knot_block b w c f gs tag_len)
        → (ks ∷ [] ≡ (whole k).states) × ((ended (chain_length one)).output ≡ (whole k).output) × (n + 1 ≡ length (whole k).blocks)
    message_knot k gs ks n h hg hn hk =
        let q = message_one b w c f ok decrypt s at (record { text = t; meta = m; forgets = true }) ha in
        let z = knotted ended tag_len gs ks n hg hn hk in
        rw (h, q) (z.0, refl, z.1)

  -- ---- a start: its blocks one by one, d bytes of what it injects being done
  module _ (key nonce : Bytes) where
    abbrev the_bytes : Bytes
    the_bytes = start_bytes (pack_length one) key nonce

    pub record Starting (e : ℕ) (s : Bytes) (d n : ℕ) : Type 0 where
      pub within : d ≤ length the_bytes
      pub few : n ≤ d
      pub states : (group one f false (s ∷ []) 0 [] (drop d the_bytes) (e ∷ [])).states ≡ (start_group one f key nonce e).states
      pub count : n + length (group one f false (s ∷ []) 0 [] (drop d the_bytes) (e ∷ [])).blocks ≡ length (start_group one f key nonce e).blocks

    pub starting_none : (e : ℕ) (s : Bytes) → s ≡ replicate (state_length one) 0 → Starting e s 0 0
    starting_none e s h = record { within = omega arith; few = omega arith; states = rw h refl; count = rw h (omega arith) }

    pub starting_more : {e : ℕ} {s : Bytes} {d n : ℕ} → Starting e s d n → (s' : Bytes) → full_rate one < length the_bytes - d
        → s' ≡ absorb f s (block one 0 [] 0 (take (full_rate one) (drop d the_bytes)) 0) → Starting e s' (d + full_rate one) (n + 1)
    starting_more {e} {s} {d} {n} o s' h es =
        let p = meta_more b w c f ok false s (drop d the_bytes) e (rw length-drop h) in
        let p' = rw (← es, drop-drop (full_rate one) d the_bytes) at p in
        record {
          within = omega arith;
          few = omega (arith, o.few, ok.tag_fits, ok.text_fits);
          states = sym (ap (λ (z : Ride). z.states) p') ∙ o.states;
          count = omega (arith, ap (λ (z : Ride). length z.blocks) p', o.count);
        }

    pub starting_last : {e : ℕ} {s : Bytes} {d n : ℕ} → Starting e s d n → (s' : Bytes) → length the_bytes - d ≤ full_rate one
        → s' ≡ absorb f s (block one 0 [] 0 (take (length the_bytes - d) (drop d the_bytes)) e)
        → (s' ∷ [] ≡ (start_group one f key nonce e).states) × (n + 1 ≡ length (start_group one f key nonce e).blocks)
    starting_last {e} {s} {d} {n} o s' h es =
        let p = meta_last b w c f ok false s (drop d the_bytes) e (rw length-drop h) in
        let es' = rw (take_all (length the_bytes - d) (drop d the_bytes) (rw length-drop (omega arith))) at es in
        let p' = rw (← es') at p in
        (sym (ap (λ (z : Ride). z.states) p') ∙ o.states, omega (arith, ap (λ (z : Ride). length z.blocks) p', o.count))

    abbrev begun : Bool → Bool → Ride
    begun k tagged = start one f (record { key = key; nonce = nonce; tagged = tagged; forgets = k })

    pub start_plain : (k tagged : Bool) → k ≡ false → start_group one f key nonce (eom (taken tagged)) ≡ begun k tagged
    start_plain k tagged h = rw h (sym (start_one b w c f ok (record { key = key; nonce = nonce; tagged = tagged; forgets = false })))

    pub start_knot : (k tagged : Bool) (gs ks : Bytes) (n : ℕ) → k ≡ true → gs ∷ [] ≡ (start_group one f key nonce (chain_length one)).states → n ≡ length (start_group one f key nonce (chain_length one)).blocks
        → ks ≡ absorb f gs (knot_block b w c f gs (eom (taken tagged)))
        → (ks ∷ [] ≡ (begun k tagged).states) × (n + 1 ≡ length (begun k tagged).blocks)
    start_knot k tagged gs ks n h hg hn hk =
        let q = start_one b w c f ok (record { key = key; nonce = nonce; tagged = tagged; forgets = true }) in
        let z = knotted (start_group one f key nonce) (eom (taken tagged)) gs ks n hg hn hk in
        rw (h, q) (z.0, z.1)
