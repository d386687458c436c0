-- The reader finds what made the blocks: rounds, groups, knots, starts and messages, each with any blocks behind it.
use Prim.Native.Nat.{ℕ, ◌-◌, ◌≤◌, ◌<◌}
use mathlib.Core.Path.{◌≡◌, refl, sym, ap, ◌∙◌}
use mathlib.Core.Bool.{Bool, true, false}
use mathlib.Core.List.{List, [], ◌∷◌, ◌++◌, map, append_assoc, append-nil}
use native.Mathlib.Omega.{arith}
use borrow.Author.Tests.{eq-eqb, ne_eqb}
use lib.ListN.{length, take, drop, replicate, length-take, length-drop, take-append-drop}
use Rattle.motorist.specs.Instance.{Instance, Sound, text_rate, full_rate, chain_length, tag_len}
use Rattle.motorist.specs.Piston.{Bytes, eom, eom_of}
use Rattle.motorist.specs.Engine.{States, Blocks, first_piston, Round, text_after, meta_after, goes_on, inject_start, text_fit, meta_fit, deal, round, Ride, fill, absorbs, ride, group, each, inject_collective}
use Rattle.motorist.specs.Motorist.{taken, ends, knot}
use Rattle.motorist.specs.Reader.{End, continues, ties, closes, Group, Mode, starting, inside, knotting, turn, eom_says, texts_of, metas_of, read_round, read}
use Rattle.motorist.specs.Shape.{Fit}
use Rattle.motorist.proofs.Plans.{eom_chain, alone_fits, Behind, behind, behind_less, inject_le, deal_fit, round_left, text_after_length, meta_after_length, Planned, last, more, planned, Injected, final, further, injected}
use Rattle.motorist.proofs.Blocks.{eom_back, meta_back, text_back}

-- nothing is left behind it, so it is all
all_of : (a b l : Bytes) → a ++ b ≡ l → length b ≡ 0 → a ≡ l
all_of a [] l h z = sym (append-nil a) ∙ h
all_of a (x ∷ b) l h z = absurd (omega arith)

module _ (i : Instance) (ok : Sound i) where
  -- ---- how a round ends
  pub end_knot : eom_says i (eom (chain_length i)) ≡ ties
  end_knot =
      ap (eom_says i) (eom_chain i ok)
      ∙ rw (
        ne_eqb (chain_length i) 0 (λ (h : chain_length i ≡ 0). omega (arith, ok.chain_long)),
        eq-eqb (chain_length i) (chain_length i) refl,
        eom_says,
      )

  pub end_ends : (b : Bool) → eom_says i (eom (taken b)) ≡ closes b
  end_ends true = rw (ne_eqb tag_len (chain_length i) (λ (h : tag_len ≡ chain_length i). omega (arith, ok.chain_long)), eom_says)
  end_ends false = rw (ne_eqb 255 (chain_length i) (λ (h : 255 ≡ chain_length i). omega (arith, ok.chain_fits, ok.text_fits, ok.offsets_small)), eom_says)

  -- ---- a round: what its blocks hold, and what it leaves, is all
  deal-read : (from at t m : ℕ) (es : List ℕ) (ss : States) (text meta : Bytes) → at < text_rate i → from ≤ full_rate i → Behind i from t → length text ≡ t → length meta ≡ m
      → (texts_of i at (fill i false (deal i from at t m es) ss text meta) ++ text_after (deal i from at t m es) text ≡ text)
      × (metas_of i (fill i false (deal i from at t m es) ss text meta) ++ meta_after (deal i from at t m es) meta ≡ meta)
  deal-read from at t m [] ss text meta ha hf hb ht hm = (refl, refl)
  deal-read from at t m (e ∷ es) ss text meta ha hf hb ht hm =
      let a : ℕ = text_fit i at t in
      let b : ℕ = meta_fit i from m in
      let fit : Fit i at (length (take a text)) from (length (take b meta)) = (deal_fit i ok false (first_piston ss) from at t m text meta ha hf hb ht hm).fit in
      let ih = deal-read from 0 (t - a) (m - b) es (drop 1 ss) (drop a text) (drop b meta) (omega (arith, ok.tag_fits)) hf (behind_less i from t a hb) (rw (length-drop, ht)) (rw (length-drop, hm)) in (
        rw (text_back i ok at (take a text) from (take b meta) e fit, append_assoc, ih.0, take-append-drop),
        rw (meta_back i ok at (take a text) from (take b meta) e fit, append_assoc, ih.1, take-append-drop),
      )

  module _ (at t m e : ℕ) (es : List ℕ) (ss : States) (text meta : Bytes) (ha : at < text_rate i) (ht : length text ≡ t) (hm : length meta ≡ m) where
    abbrev blocks : Blocks
    blocks = fill i false (round i at t m (e ∷ es)) ss text meta

    round_eom : eom_of i (first_piston blocks) ≡ e
    unfolding round
    round_eom =
        eom_back i ok at (take (text_fit i at t) text) (inject_start i t) (take (meta_fit i (inject_start i t) m) meta) e
        (deal_fit i ok false (first_piston ss) (inject_start i t) at t m text meta ha (inject_le i ok t) (behind i t) ht hm).fit

    round-read : (texts_of i at blocks ++ text_after (round i at t m (e ∷ es)) text ≡ text) × (metas_of i blocks ++ meta_after (round i at t m (e ∷ es)) meta ≡ meta)
    unfolding round
    round-read = deal-read (inject_start i t) at t m (e ∷ es) ss text meta ha (inject_le i ok t) (behind i t) ht hm

  -- what follows a round
  abbrev pub onward : Mode × List Group → List Blocks → List Group
  onward p rest = p.1 ++ read i p.0 rest

  -- ---- a group, with the text t₀ and the metadata m₀ read before it
  ride-read : (f : Bytes → Bytes) {e : ℕ} {es : List ℕ} {at n k : ℕ} {rs : List Round} → Planned i (e ∷ es) at n k rs
      → (ss : States) (t m t₀ m₀ : Bytes) (rest : List Blocks) → length t ≡ n → length m ≡ k
      → read i (inside at t₀ m₀) ((ride i f false rs ss t m).blocks ++ rest) ≡ onward (turn (inside 0 (t₀ ++ t) (m₀ ++ m)) (t₀ ++ t) (m₀ ++ m) false (eom_says i e)) rest
  ride-read f {e} {es = es} (last {at = at} {t = n} {m = k} h p q) ss t m t₀ m₀ rest ht hm =
      let r : Round = round i at n k (e ∷ es) in
      let w = round-read at n k e es ss t m h ht hm in
      let l = round_left i at n k (e ∷ es) in
      let et : texts_of i at (fill i false r ss t m) ≡ t = all_of _ _ t w.0 (text_after_length r t ∙ rw ht (l.0 ∙ p)) in
      let em : metas_of i (fill i false r ss t m) ≡ m = all_of _ _ m w.1 (meta_after_length r m ∙ rw hm (l.1 ∙ q)) in
      rw (round_eom at n k e es ss t m h ht hm, et, em)
  ride-read f {e} {es = es} (more {at = at} {t = n} {m = k} h g ps) ss t m t₀ m₀ rest ht hm =
      let r : Round = round i at n k (0 ∷ goes_on es) in
      let bs : Blocks = fill i false r ss t m in
      let w = round-read at n k 0 (goes_on es) ss t m h ht hm in
      let ih = ride-read f ps (absorbs i f ss bs) (text_after r t) (meta_after r m) (t₀ ++ texts_of i at bs) (m₀ ++ metas_of i bs) rest (text_after_length r t ∙ rw ht) (meta_after_length r m ∙ rw hm) in
      rw (round_eom at n k 0 (goes_on es) ss t m h ht hm) (rw (append_assoc t₀, append_assoc m₀, w.0, w.1) at ih)

  pub group-read : (f : Bytes → Bytes) (ss : States) (at : ℕ) (t m : Bytes) (e : ℕ) (es : List ℕ) (rest : List Blocks) → at < text_rate i
      → read i (inside at [] []) ((group i f false ss at t m (e ∷ es)).blocks ++ rest) ≡ onward (turn (inside 0 t m) t m false (eom_says i e)) rest
  group-read f ss at t m e es rest ha = ride-read f (planned i ok e es at (length t) (length m) ha) ss t m [] [] rest refl refl

  -- ---- metadata injected collectively, of which the first Piston's is read: in the start, and in a knot
  -- with the metadata m₀ read before it in the mode `next m₀`; `end` is what comes at its end
  module _ (next : Bytes → Mode) (end : Bytes → End → Mode × List Group) (again : (m : Bytes) → end m continues ≡ (next m, []))
      (on : (m m₀ : Bytes) (ms : List Bytes) (e : ℕ) (es : List ℕ) → length m ≤ full_rate i → read_round i (next m₀) (each i (m ∷ ms) (e ∷ es)) ≡ end (m₀ ++ m) (eom_says i e)) where
    injected_read : {e : ℕ} {es : List ℕ} {m : Bytes} {ms : List Bytes} {bs : List Blocks} → Injected i (e ∷ es) m ms bs → (m₀ : Bytes) (rest : List Blocks)
        → read i (next m₀) (bs ++ rest) ≡ onward (end (m₀ ++ m) (eom_says i e)) rest
    injected_read {e} {es} (final {m = m} {ms = ms} h) m₀ rest = rw (on m m₀ ms e es h)
    injected_read {e} {es} (further {m = m} {ms = ms} h ps) m₀ rest =
        rw (on (take (full_rate i) m) m₀ (map (take (full_rate i)) ms) 0 (goes_on es) (rw length-take (omega arith)), again)
        (rw (append_assoc m₀, take-append-drop) at (injected_read ps (m₀ ++ take (full_rate i) m) rest))

    inject-read : (m : Bytes) (ms : List Bytes) (e : ℕ) (es : List ℕ) (rest : List Blocks)
        → read i (next []) (inject_collective i (m ∷ ms) (e ∷ es) ++ rest) ≡ onward (end m (eom_says i e)) rest
    inject-read m ms e es rest = injected_read (injected i ok (e ∷ es) m ms) [] rest

  pub start_read : (m : Bytes) (ms : List Bytes) (e : ℕ) (es : List ℕ) (rest : List Blocks)
      → read i (starting []) (inject_collective i (m ∷ ms) (e ∷ es) ++ rest) ≡ onward (turn (starting m) [] m false (eom_says i e)) rest
  start_read =
      inject-read starting (λ m x. turn (starting m) [] m false x) (λ m. refl)
      (λ m m₀ ms e es h. rw (meta_back i ok 0 [] 0 m e (alone_fits i (length m) h), eom_back i ok 0 [] 0 m e (alone_fits i (length m) h)))

  knotting_read : (t m : Bytes) (c : Bytes) (cs : List Bytes) (e : ℕ) (es : List ℕ) (rest : List Blocks)
      → read i (knotting t m) (inject_collective i (c ∷ cs) (e ∷ es) ++ rest) ≡ onward (turn (knotting t m) t m true (eom_says i e)) rest
  knotting_read t m =
      inject-read (λ x. knotting t m) (λ x y. turn (knotting t m) t m true y) (λ x. refl)
      (λ c x cs e es h. rw (eom_back i ok 0 [] 0 c e (alone_fits i (length c) h)))

  -- ---- a group that is read up to its end, with a knot or without
  pub knot-read : (f : Bytes → Bytes) (μ ν : Mode) (g : List ℕ → Ride) (t m : Bytes) (k b : Bool) (rest : List Blocks)
      → ((e : ℕ) (es : List ℕ) (rest : List Blocks) → read i μ ((g (e ∷ es)).blocks ++ rest) ≡ onward (turn ν t m false (eom_says i e)) rest)
      → read i μ ((knot i f k g (ends i b)).blocks ++ rest) ≡ record { text = t; meta = m; forgets = k; tagged = b } ∷ read i (inside (taken b) [] []) rest
  knot-read f μ ν g t m false b rest h = h (eom (taken b)) (replicate i.others (eom 0)) rest ∙ rw (end_ends b)
  knot-read f μ ν g t m true b rest h =
      rw (append_assoc, h (eom (chain_length i)), end_knot, knotting_read t m _ _ (eom (taken b)) (replicate i.others (eom 0)) rest, end_ends b)
