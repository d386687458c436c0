-- Lanes are those of their bytes: so a record that is to show a state has the very lanes that the code has.
use mathlib.Core.Path.{◌≡◌, ap, ◌∙◌}
use mathlib.Core.List.{List}
use Prim.Native.Nat.{ℕ, ◌*◌, ◌^◌}
use lib.ListN.{replicate}
use Rattle.keccak.specs.State.{bytes, lanes_from}
use Rattle.motorist.specs.Instance.{state_length}
use Rattle.lanes.specs.Width.{Width, IsState, instance}
use Rattle.rates.proofs.Lanes.{bits_of}
use Rattle.calls.proofs.Meets.{lanes_back}

module _ {S : Type 0} {l w : ℕ} (lanes : S → List ℕ) (of_lanes : List ℕ → S) (width : Width l w) (back : (x : S) → of_lanes (lanes x) ≡ x) (x : S)
    (state : IsState (2 ^ l) (lanes x)) where
  pub held : of_lanes (lanes_from w 25 (bytes w (lanes x))) ≡ x
  held = ap of_lanes (lanes_back w 25 (lanes x) state.long (λ i. rw (bits_of width) (state.small i))) ∙ back x

  -- those of a session that starts, or has failed
  pub held_zero : bytes w (lanes x) ≡ replicate (w * 25) 0 → of_lanes (lanes_from w 25 (replicate (state_length (instance l)) 0)) ≡ x
  held_zero e = rw (width.state, ← e) held
