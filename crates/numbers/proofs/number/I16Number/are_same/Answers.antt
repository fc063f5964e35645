use Rattle.numbers.proofs.Same.{same_numbers}
use Rattle.numbers.proofs.number.I16Number.are_same.Goals as goal

pub returns : goal.returns
returns c = same_numbers c.args.one.now c.args.other.now c.eq.result c.eq.ensures
