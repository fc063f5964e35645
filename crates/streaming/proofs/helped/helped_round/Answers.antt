use Rattle.std.proofs.Common.{arith}
use Rattle.std.specs.Arc.{arc_value}
use Rattle.stream_laws.specs.CanRun.{CanRun}
use Rattle.flowgraph.specs.Flowgraph.{net_of}
use Rattle.plant.specs.Plant.{plant_of}
use Rattle.streaming.proofs.Working.{led_steps, led_then, moved_then}
use Rattle.streaming.proofs.helped.helped_round.Goals as goal

pub returns-in_err-moved-clause-led : goal.returns-in_err-moved-clause-led
returns-in_err-moved-clause-led g c =
    led_steps g.B.Block.meaning c.args.max c.args.parts.now c.round.new.self c.min-first.result (omega (arith, c.min-first.ensures)) c.round.ensures.right c.round.ensures.spans c.round.ensures.same c.round.ensures.steps

pub returns-then-not-moved-clause-led : goal.returns-then-not-moved-clause-led
returns-then-not-moved-clause-led g c =
    led_steps g.B.Block.meaning c.args.max c.args.parts.now c.round.new.self c.min-first.result (omega (arith, c.min-first.ensures)) c.round.ensures.right c.round.ensures.spans c.round.ensures.same c.round.ensures.steps

pub returns-in_err-help-clause-led : goal.returns-in_err-help-clause-led
returns-in_err-help-clause-led g c =
    led_then g.B.Block.meaning c.args.max c.args.parts.now c.round.new.self c.help.new.parts
    (led_steps g.B.Block.meaning c.args.max c.args.parts.now c.round.new.self c.min-first.result (omega (arith, c.min-first.ensures)) c.round.ensures.right c.round.ensures.spans c.round.ensures.same c.round.ensures.steps) c.help.ensures.led

pub returns-clause-led : goal.returns-clause-led
returns-clause-led g c =
    led_then g.B.Block.meaning c.args.max c.args.parts.now c.round.new.self c.help.new.parts
    (led_steps g.B.Block.meaning c.args.max c.args.parts.now c.round.new.self c.min-first.result (omega (arith, c.min-first.ensures)) c.round.ensures.right c.round.ensures.spans c.round.ensures.same c.round.ensures.steps) c.help.ensures.led

pub returns-clause-moved : goal.returns-clause-moved
returns-clause-moved g c =
    let runs : CanRun (net_of g.B.Block.meaning (arc_value c.args.parts.now.graph)) = rw (← c.deref.ensures) c.recall.ensures.runs in
    moved_then g.B.Block.meaning c.args.max (plant_of c.args.parts.now) (plant_of c.round.new.self) (plant_of c.help.new.parts) c.round.ensures.same runs c.round.ensures.right.keeps.sound c.help.ensures.led.worked
    c.in_ok-moved.moved c.if-not-moved.false c.in_ok-moved.ensures.moved
