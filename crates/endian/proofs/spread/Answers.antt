-- The proof that `endian::spread` meets its contract.
use mathlib.Core.Path.{refl, sym}
use native.Mathlib.Nat.{div-one}
use native.Mathlib.Omega.{arith}
use Rattle.endian.specs.Little.{to_bytes}
use Rattle.endian.proofs.Laws.{store_more, shift_more}
use Rattle.endian.proofs.spread.Goals as goal

pub loop-byte-init : goal.loop-byte-init
unfolding to_bytes
loop-byte-init c = (sym (div-one c.args.x), refl)

pub loop-byte-preserved : goal.loop-byte-preserved
loop-byte-preserved c =
    let a = c.args in
    let l = c.loop-byte in
    (rw l.invariant.0 (shift_more a.x l.byte-index), rw (l.invariant.1, l.invariant.0) (store_more a.x l.byte-index a.out.now (omega arith)))
