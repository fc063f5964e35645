use Rattle.std.proofs.Common.{ℕ, map, false, Some}
use Rattle.std.specs.Prelude.{position, bytes_eq}
use Rattle.stream_model.specs.Machine as machine
use Rattle.stream_model.specs.Network.{Network, State}
use Rattle.flowgraph.specs.Flowgraph.{net_of}
use Rattle.kinds.specs.Kind.{meaning_of}
use Rattle.plant_storage.specs.Marks.{mark_of}
use Rattle.plant.specs.Feeding.{feed_numbers}
use Rattle.plant.specs.Answers.{refusal_of}
use Rattle.magbelu_c.specs.AnyPlants.{plant_of}
use Rattle.magbelu_c.proofs.Calling.{none_at, none_named, one_at, one_named}
use Rattle.magbelu_c.proofs.block_calls.feed_numbers.Goals as goal

pub returns-in_default-clause-calls : goal.returns-in_default-clause-calls
returns-in_default-clause-calls c =
    none_named (plant_of c.args.plant.now) c.args.source.now (λ net st b. feed_numbers net st b c.args.numbers.now (map mark_of c.args.marks.now)) (false)
    (none_at c.block_named.result (position (bytes_eq c.args.source.now) (plant_of c.args.plant.now).graph.names) c.block_named.ensures c.in_default.is) c.refusal.result c.refusal.ensures

pub returns-in-Ok-clause-calls : goal.returns-in-Ok-clause-calls
returns-in-Ok-clause-calls c =
    let net = net_of meaning_of (plant_of c.args.plant.now).graph in let name = c.args.source.now in let call : Network → State → ℕ → machine.Reply × State = λ net st b. feed_numbers net st b c.args.numbers.now (map mark_of c.args.marks.now) in
    let b = c.in-Some.source.0 in let now = call net (plant_of c.args.plant.now).state b in
    let at = one_at c.block_named.result (position (bytes_eq name) (plant_of c.args.plant.now).graph.names) c.in-Some.source c.block_named.ensures c.in-Some.is in
    one_named (plant_of c.args.plant.now) name call (false) b at (plant_of c.feed_numbers.new.self) (Some (machine.Fed c.in-Ok.fed.0)) c.in-Ok.ensures.answered c.done.result c.done.ensures

pub returns-in-Err-clause-calls : goal.returns-in-Err-clause-calls
returns-in-Err-clause-calls c =
    let net = net_of meaning_of (plant_of c.args.plant.now).graph in let name = c.args.source.now in let call : Network → State → ℕ → machine.Reply × State = λ net st b. feed_numbers net st b c.args.numbers.now (map mark_of c.args.marks.now) in
    let b = c.in-Some.source.0 in let now = call net (plant_of c.args.plant.now).state b in
    let at = one_at c.block_named.result (position (bytes_eq name) (plant_of c.args.plant.now).graph.names) c.in-Some.source c.block_named.ensures c.in-Some.is in
    one_named (plant_of c.args.plant.now) name call (false) b at (plant_of c.feed_numbers.new.self) (refusal_of c.in-Err.fault) c.in-Err.ensures.answered c.refusal-in-Err.result c.refusal-in-Err.ensures
