use Rattle.std.proofs.Common.{false, refl, Some}
use Rattle.std.specs.Prelude.{position, bytes_eq}
use Rattle.stream_model.specs.Machine as machine
use Rattle.flowgraph.specs.Flowgraph.{net_of}
use Rattle.kinds.specs.Kind.{meaning_of}
use Rattle.plant.specs.Answers.{refusal_of, step_reply}
use Rattle.magbelu_c.specs.AnyPlants.{plant_of}
use Rattle.magbelu_c.proofs.Calling.{none_at, none_named, one_at, one_named, answered_so, stepped_none, stepped_some}
use Rattle.magbelu_c.specs.Replies.{stepped}
use Rattle.magbelu_c.proofs.block_calls.step.Goals as goal

pub returns-in_default-clause-calls : goal.returns-in_default-clause-calls
returns-in_default-clause-calls c =
    none_named (plant_of c.args.plant.now) c.args.block.now (stepped (plant_of c.args.plant.now).capacities c.args.max) false
    (none_at c.block_named.result (position (bytes_eq c.args.block.now) (plant_of c.args.plant.now).graph.names) c.block_named.ensures c.in_default.is) c.refusal.result c.refusal.ensures

pub returns-then-max-eq0-clause-calls : goal.returns-then-max-eq0-clause-calls
returns-then-max-eq0-clause-calls c =
    let p = (plant_of c.args.plant.now) in let net = net_of meaning_of p.graph in let name = c.args.block.now in let call = stepped p.capacities c.args.max in let b = c.in-Some.block.0 in
    let at = one_at c.block_named.result (position (bytes_eq name) p.graph.names) c.in-Some.block c.block_named.ensures c.in-Some.is in
    let so = stepped_none net p.capacities p.state b c.args.max c.if-max-eq0.true in
    one_named p name call false b at p (Some (machine.Did 0)) (answered_so (machine.Did 0, p.state) (call net p.state b) p p (Some (machine.Did 0)) so (refl, refl)) c.done.result c.done.ensures

pub returns-in-Ok-clause-calls : goal.returns-in-Ok-clause-calls
returns-in-Ok-clause-calls c =
    let p = (plant_of c.args.plant.now) in let net = net_of meaning_of p.graph in let name = c.args.block.now in let call = stepped p.capacities c.args.max in let b = c.in-Some.block.0 in
    let at = one_at c.block_named.result (position (bytes_eq name) p.graph.names) c.in-Some.block c.block_named.ensures c.in-Some.is in
    let so = stepped_some net p.capacities p.state b c.args.max c.if-max-eq0.false in
    one_named p name call false b at (plant_of c.step.new.self) (Some (step_reply c.in-Ok.step)) (answered_so _ (call net p.state b) p (plant_of c.step.new.self) (Some (step_reply c.in-Ok.step)) so c.in-Ok.ensures.answered) c.of_step.result c.of_step.ensures

pub returns-in-Err-clause-calls : goal.returns-in-Err-clause-calls
returns-in-Err-clause-calls c =
    let p = (plant_of c.args.plant.now) in let net = net_of meaning_of p.graph in let name = c.args.block.now in let call = stepped p.capacities c.args.max in let b = c.in-Some.block.0 in
    let at = one_at c.block_named.result (position (bytes_eq name) p.graph.names) c.in-Some.block c.block_named.ensures c.in-Some.is in
    let so = stepped_some net p.capacities p.state b c.args.max c.if-max-eq0.false in
    one_named p name call false b at (plant_of c.step.new.self) (refusal_of c.in-Err.fault) (answered_so _ (call net p.state b) p (plant_of c.step.new.self) (refusal_of c.in-Err.fault) so c.in-Err.ensures.answered) c.refusal-in-Err.result c.refusal-in-Err.ensures
