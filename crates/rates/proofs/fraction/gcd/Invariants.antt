use Rattle.std.proofs.Common.{◌≡◌}
use Rattle.graph_model.specs.Rates.{gcd}
use Rattle.rates.proofs.fraction.gcd.Given as goal

abbrev pub invariant-loop-rest : goal.invariant-loop-rest
invariant-loop-rest l = gcd l.greater l.rest ≡ gcd l.fn.a l.fn.b

abbrev pub decreases-loop-rest : goal.decreases-loop-rest
decreases-loop-rest l = l.rest
