use Rattle.std.proofs.Common.{arith}
use Rattle.streaming.proofs.Working.{led_more}
use Rattle.streaming.proofs.helped.act.Goals as goal

pub returns-in-Some : goal.returns-in-Some
returns-in-Some g c = led_more g.B.Block.meaning c.args.max c.min.result (omega (arith, c.min.ensures)) c.args.parts.now c.give_away.new.parts c.give_away.ensures
