use Rattle.std.proofs.Common.{refl}
use Rattle.streaming.proofs.Working.{led_none, led_then}
use Rattle.streaming.proofs.helped.look.Goals as goal

pub returns-in_err-graph : goal.returns-in_err-graph
returns-in_err-graph g c = led_none g.B.Block.meaning c.args.max c.args.parts.now c.args.parts.now c.requires.right refl

pub loop-block-init : goal.loop-block-init
loop-block-init g c = led_none g.B.Block.meaning c.args.max c.args.parts.now c.args.parts.now c.requires.right refl

pub returns-in_err-did : goal.returns-in_err-did
returns-in_err-did g c =
    led_then g.B.Block.meaning c.args.max c.args.parts.now c.take_done-took.new.parts c.act.new.parts
    (led_then g.B.Block.meaning c.args.max c.args.parts.now c.loop-block.parts c.take_done-took.new.parts c.loop-block.invariant (c.take_done-took.ensures c.args.max)) c.act.ensures

pub loop-block-preserved : goal.loop-block-preserved
loop-block-preserved g c =
    led_then g.B.Block.meaning c.args.max c.args.parts.now c.take_done-took.new.parts c.act.new.parts
    (led_then g.B.Block.meaning c.args.max c.args.parts.now c.loop-block.parts c.take_done-took.new.parts c.loop-block.invariant (c.take_done-took.ensures c.args.max)) c.act.ensures

pub act-requires-clause-right : goal.act-requires-clause-right
act-requires-clause-right g c = (c.take_done-took.ensures c.args.max).right
