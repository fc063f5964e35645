use Rattle.numbers.proofs.Same.{same_bytes}
use Rattle.numbers.proofs.number.U8Number.are_same.Goals as goal

pub returns : goal.returns
returns c = same_bytes c.args.one.now c.args.other.now c.eq.result c.eq.ensures
