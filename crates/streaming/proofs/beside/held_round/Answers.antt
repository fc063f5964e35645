use Rattle.std.proofs.Common.{arith}
use Rattle.std.specs.Arc.{arc_value}
use Rattle.stream_laws.specs.CanRun.{CanRun}
use Rattle.flowgraph.specs.Flowgraph.{net_of}
use Rattle.plant.specs.Plant.{plant_of}
use Rattle.streaming.proofs.Holding.{moved_more, moved_then}
use Rattle.streaming.proofs.Working.{led_more, led_then}
use Rattle.streaming.proofs.beside.held_round.Goals as goal

pub returns-in_err-moved-clause-led : goal.returns-in_err-moved-clause-led
returns-in_err-moved-clause-led g c =
    led_more g.B.Block.meaning c.args.max c.min-first.result (omega (arith, c.min-first.ensures)) c.args.parts.now c.step_others.new.parts c.step_others.ensures.led

pub returns-then-not-moved-clause-led : goal.returns-then-not-moved-clause-led
returns-then-not-moved-clause-led g c =
    led_more g.B.Block.meaning c.args.max c.min-first.result (omega (arith, c.min-first.ensures)) c.args.parts.now c.step_others.new.parts c.step_others.ensures.led

pub returns-then-not-moved-clause-moved : goal.returns-then-not-moved-clause-moved
returns-then-not-moved-clause-moved g c =
    let old = plant_of c.args.parts.now in
    moved_more c.args.held.now (net_of g.B.Block.meaning old.graph) old.capacities c.min-first.result c.args.max old.state (plant_of c.step_others.new.parts).state (omega (arith, c.min-first.ensures)) c.in_ok-moved.moved c.in_ok-moved.ensures.moved

pub returns-in_err-help-clause-led : goal.returns-in_err-help-clause-led
returns-in_err-help-clause-led g c =
    led_then g.B.Block.meaning c.args.max c.args.parts.now c.step_others.new.parts c.help.new.parts
    (led_more g.B.Block.meaning c.args.max c.min-first.result (omega (arith, c.min-first.ensures)) c.args.parts.now c.step_others.new.parts c.step_others.ensures.led) c.help.ensures.led

pub returns-clause-led : goal.returns-clause-led
returns-clause-led g c =
    led_then g.B.Block.meaning c.args.max c.args.parts.now c.step_others.new.parts c.help.new.parts
    (led_more g.B.Block.meaning c.args.max c.min-first.result (omega (arith, c.min-first.ensures)) c.args.parts.now c.step_others.new.parts c.step_others.ensures.led) c.help.ensures.led

pub returns-clause-moved : goal.returns-clause-moved
returns-clause-moved g c =
    let runs : CanRun (net_of g.B.Block.meaning (arc_value c.args.parts.now.graph)) = rw (← c.deref.ensures) c.recall.ensures.runs in
    moved_then g.B.Block.meaning c.args.held.now c.min-first.result c.args.max (plant_of c.args.parts.now) (plant_of c.step_others.new.parts) (plant_of c.help.new.parts) c.step_others.ensures.led.worked.same runs c.step_others.ensures.led.right.keeps.sound c.help.ensures.led.worked
    c.in_ok-moved.moved c.if-not-moved.false c.in_ok-moved.ensures.moved
