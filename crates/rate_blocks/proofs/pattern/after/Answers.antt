use Rattle.std.proofs.Common.{arith}
use Rattle.rate_blocks.proofs.Cycles.{round_begins, round_goes_on}
use Rattle.rate_blocks.proofs.pattern.after.Goals as goal

pub returns-then-next-n : goal.returns-then-next-n
returns-then-next-n c = round_begins c.args.count c.args.n (omega arith) c.requires.within

pub returns-else-next-n : goal.returns-else-next-n
returns-else-next-n c = round_goes_on c.args.count c.args.n (omega arith)
