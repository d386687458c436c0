-- Each sum and product modulo 256 is that of the numbers themselves.
use Rattle.std.proofs.Common.{◌≡◌, ℕ, ◌+◌, ◌*◌, ◌/◌, ◌%◌, arith}
use Rattle.std.proofs.lemmas.Nat.{mul-mod_second}
use Rattle.std.proofs.lemmas.Grind.{common_steps}
use Rattle.trials.proofs.pattern.Pattern.at.Goals as goal

sums : (f s l i j : ℕ) → ((f + s * (i % 256) % 256) % 256 + l * (j % 256) % 256) % 256 ≡ (f + s * i + l * j) % 256
sums f s l i j = rw (mul-mod_second s i 256, mul-mod_second l j 256) (omega arith)

pub returns : goal.returns
returns c =
    let p = c.args.self.now in
    let e = sums p.first p.step p.lift c.args.i (c.args.i / p.period) in
    grind (arith, common_steps, e)
