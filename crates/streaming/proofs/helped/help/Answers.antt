use Rattle.streaming.proofs.Working.{led_then}
use Rattle.streaming.proofs.helped.help.Goals as goal

pub returns-clause-led : goal.returns-clause-led
returns-clause-led g c =
    led_then g.B.Block.meaning c.args.max c.args.parts.now c.take_all_back.new.parts c.give_all_up.new.parts
    (led_then g.B.Block.meaning c.args.max c.args.parts.now c.look_again-looked.new.parts c.take_all_back.new.parts c.look_again-looked.ensures (c.take_all_back.ensures c.args.max)) (c.give_all_up.ensures.led c.args.max)

pub give_all_up-requires : goal.give_all_up-requires
give_all_up-requires g c = record { right = (c.take_all_back.ensures 0).right }
