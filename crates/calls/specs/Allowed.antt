-- What a message and a start must be for no rule to refuse them, in plain words: what the work of a call may rest on.
use Rattle.std.specs.Prelude.{◌≡◌, true, ℕ, ◌≤◌}
use Rattle.table.specs.Choices.{asked}
use Rattle.table.specs.declared.Phase.{Phase}
use Rattle.table.specs.declared.StartTag.{StartTag}
use Rattle.motorist.specs.Instance.{tag_len}
use Rattle.calls.specs.Session.{live}

-- a message on a session of this phase and text start, of t bytes of text and m of metadata, with an output of d bytes and a tag of g
pub record Allowed (phase : Phase) (at t m d g : ℕ) : Type 0 where
  pub session : live phase at ≡ true
  pub text : t ≤ 65535
  pub meta : m ≤ 65535
  pub output : t ≤ d
  pub tag : g ≡ tag_len

-- a start with a key of k bytes, a nonce of n and a tag buffer of g
pub record AllowedStart (k n : ℕ) (choice : StartTag) (g : ℕ) : Type 0 where
  pub long : 16 ≤ k
  pub short : k ≤ 32
  pub nonce : n ≤ 1024
  pub tag : asked choice ≡ true → g ≡ tag_len
