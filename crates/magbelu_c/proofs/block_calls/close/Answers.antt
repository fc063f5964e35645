use Rattle.std.proofs.Common.{false, Some}
use Rattle.std.specs.Prelude.{position, bytes_eq}
use Rattle.stream_model.specs.Machine as machine
use Rattle.flowgraph.specs.Flowgraph.{net_of}
use Rattle.kinds.specs.Kind.{meaning_of}
use Rattle.plant.specs.Answers.{refusal_of}
use Rattle.magbelu_c.specs.AnyPlants.{plant_of}
use Rattle.magbelu_c.proofs.Calling.{none_at, none_named, one_at, one_named, always}
use Rattle.magbelu_c.proofs.block_calls.close.Goals as goal

pub returns-in_default-clause-calls : goal.returns-in_default-clause-calls
returns-in_default-clause-calls c =
    none_named (plant_of c.args.plant.now) c.args.source.now (machine.close_of) (false)
    (none_at c.block_named.result (position (bytes_eq c.args.source.now) (plant_of c.args.plant.now).graph.names) c.block_named.ensures c.in_default.is) c.refusal.result c.refusal.ensures

pub returns-in-Ok-clause-calls : goal.returns-in-Ok-clause-calls
returns-in-Ok-clause-calls c =
    let net = net_of meaning_of (plant_of c.args.plant.now).graph in let name = c.args.source.now in let call = machine.close_of in
    let b = c.in-Some.source.0 in let now = call net (plant_of c.args.plant.now).state b in
    let at = one_at c.block_named.result (position (bytes_eq name) (plant_of c.args.plant.now).graph.names) c.in-Some.source c.block_named.ensures c.in-Some.is in
    one_named (plant_of c.args.plant.now) name call (false) b at (plant_of c.close.new.self) (Some (machine.Closed c.in-Ok.closed.0)) (always now (plant_of c.args.plant.now) (plant_of c.close.new.self) (Some (machine.Closed c.in-Ok.closed.0)) c.in-Ok.ensures.answered) c.done.result c.done.ensures

pub returns-in-Err-clause-calls : goal.returns-in-Err-clause-calls
returns-in-Err-clause-calls c =
    let net = net_of meaning_of (plant_of c.args.plant.now).graph in let name = c.args.source.now in let call = machine.close_of in
    let b = c.in-Some.source.0 in let now = call net (plant_of c.args.plant.now).state b in
    let at = one_at c.block_named.result (position (bytes_eq name) (plant_of c.args.plant.now).graph.names) c.in-Some.source c.block_named.ensures c.in-Some.is in
    one_named (plant_of c.args.plant.now) name call (false) b at (plant_of c.close.new.self) (refusal_of c.in-Err.fault) (always now (plant_of c.args.plant.now) (plant_of c.close.new.self) (refusal_of c.in-Err.fault) c.in-Err.ensures.answered) c.refusal-in-Err.result c.refusal-in-Err.ensures
