use Rattle.std.proofs.Common.{◌≤◌, arith, sym, ◌∙◌}
use Rattle.rates.proofs.Euclid.{gcd-rest}
use Rattle.rates.proofs.fraction.gcd.Goals as goal

pub loop-rest-preserved : goal.loop-rest-preserved
loop-rest-preserved c =
    let some : 1 ≤ c.loop-rest.rest = omega arith in
    sym (gcd-rest c.loop-rest.greater c.loop-rest.rest some) ∙ c.loop-rest.invariant
