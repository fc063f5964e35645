use Rattle.std.proofs.Common.{◌*◌, arith}
use Rattle.std.proofs.Math.Nat.{mul-pos}
use Rattle.graph_laws.proofs.Divisors.{reduced}
use Rattle.rates.proofs.fraction.times.Goals as goal

pub nonzero_div-result : goal.nonzero_div-result
nonzero_div-result c =
    let some = (reduced (c.args.f.over * c.args.x) (c.args.f.under * c.args.y) (mul-pos c.requires.over.0 c.requires.factors.0)).some in
    omega (arith, c.gcd-shared.ensures)

pub nonzero_div-result-2 : goal.nonzero_div-result-2
nonzero_div-result-2 c =
    let some = (reduced (c.args.f.over * c.args.x) (c.args.f.under * c.args.y) (mul-pos c.requires.over.0 c.requires.factors.0)).some in
    omega (arith, c.gcd-shared.ensures)
