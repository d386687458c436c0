-- A call on one session and one message, as a step that is done over and over: the runs that it answers, and the lent buffers.
use Rattle.std.specs.Prelude.{false, replicate}
use Rattle.table.specs.declared.StartTag.TheVariants.{Produced}
use Rattle.motorist.specs.Piston.{Bytes}
use Rattle.keyak.specs.Keyak.{Kind, message, wrap_of, unwrap_of, start_of}
use Rattle.keyak.specs.declared.Session.{Session}
use Rattle.bench.specs.Lent.{Lent, lent}

module _ {S : Type 0} (K : Kind S) where
  -- the session of a key and a nonce
  abbrev pub begun : Bytes → Bytes → Session S
  begun key nonce = (start_of K key nonce false Produced (replicate 16 0)).session

  abbrev pub wrapping : Session S → (text meta : Bytes) → Lent → Lent
  wrapping x text meta l =
      let o = wrap_of K x (message text meta false) l.out l.tag in
      lent o.answer.runs o.out o.tag

  abbrev pub unwrapping : Session S → (text meta : Bytes) → Lent → Lent
  unwrapping x text meta l =
      let o = unwrap_of K x (message text meta false) l.tag l.out in
      lent o.answer.runs o.out o.tag
