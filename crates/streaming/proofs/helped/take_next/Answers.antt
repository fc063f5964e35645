use Rattle.std.proofs.Common.{refl}
use Rattle.streaming.proofs.Working.{led_none}
use Rattle.streaming.proofs.helped.take_next.Goals as goal

pub returns-in-None : goal.returns-in-None
returns-in-None g c = λ most. led_none g.B.Block.meaning most c.args.parts.now c.args.parts.now c.requires.right refl
