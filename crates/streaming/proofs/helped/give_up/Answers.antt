use Rattle.std.proofs.Common.{◌<◌, length, refl, subst}
use Rattle.std.proofs.lemmas.List.{length-map}
use Rattle.std.specs.Arc.{arc_value}
use Rattle.stream_model.specs.Network.{Progress, progress_at}
use Rattle.stream_laws.specs.CanRun.{CanRun}
use Rattle.flowgraph.specs.Flowgraph.{net_of}
use Rattle.streaming.proofs.GivingUp.{led_after}
use Rattle.streaming.proofs.Working.{led_none}
use Rattle.streaming.proofs.helped.give_up.Goals as goal

pub returns-then-progress-gt0-clause-led : goal.returns-then-progress-gt0-clause-led
returns-then-progress-gt0-clause-led g c =
    let runs : CanRun (net_of g.B.Block.meaning (arc_value c.args.parts.now.graph)) = rw (← c.deref.ensures) c.recall.ensures.runs in
    let in' : c.args.block.0 < length (net_of g.B.Block.meaning (arc_value c.args.parts.now.graph)).nodes = rw length-map c.requires.block in
    let some : 0 < (progress_at c.args.parts.now.firings c.args.block.0).claimed = subst (λ (p : Progress). 0 < p.claimed) c.progress.ensures.value c.if-progress-gt0.true in
    led_after g.B.Block.meaning c.args.parts.now c.args.block.0 c.requires.right runs in' some c.abandon.new.self c.abandon.ensures.progress

pub returns-else-progress-gt0-clause-led : goal.returns-else-progress-gt0-clause-led
returns-else-progress-gt0-clause-led g c = λ most. led_none g.B.Block.meaning most c.args.parts.now c.args.parts.now c.requires.right refl
