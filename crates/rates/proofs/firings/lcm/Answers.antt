use Rattle.std.proofs.Common.{arith}
use Rattle.graph_laws.proofs.Divisors.{reduced}
use Rattle.rates.proofs.firings.lcm.Goals as goal

pub nonzero_div-result : goal.nonzero_div-result
nonzero_div-result c = let some = (reduced c.args.a c.args.b c.requires.some).some in omega (arith, c.gcd.ensures)
