use Rattle.std.proofs.Common.{rules, ◌≡◌, ℕ, false, Some}
use Rattle.std.specs.Prelude.{position, bytes_eq}
use Rattle.stream_model.specs.Machine as machine
use Rattle.stream_model.specs.Network.{Network, State}
use Rattle.stream_model.specs.Settings.{Number}
use Rattle.flowgraph.specs.Flowgraph.{net_of}
use Rattle.kinds.specs.Kind.{meaning_of}
use Rattle.settings.specs.Values.{value_of}
use Rattle.plant.specs.Answers.{refusal_of}
use Rattle.magbelu_c.specs.AnyPlants.{plant_of}
use Rattle.magbelu_c.proofs.Calling.{none_at, none_named, one_at, one_named, set_as}
use Rattle.magbelu_c.proofs.block_calls.set_number.Goals as goal

pub returns-in_default-clause-calls : goal.returns-in_default-clause-calls
returns-in_default-clause-calls c =
    none_named (plant_of c.args.plant.now) c.args.block.now (λ net st b. machine.set_of net st b c.args.at (Number c.args.number)) (false)
    (none_at c.block_named.result (position (bytes_eq c.args.block.now) (plant_of c.args.plant.now).graph.names) c.block_named.ensures c.in_default.is) c.refusal.result c.refusal.ensures

pub returns-in-Ok-clause-calls : goal.returns-in-Ok-clause-calls
returns-in-Ok-clause-calls c =
    let is : value_of c.number_value.result ≡ Number c.args.number = search rules in
    let net = net_of meaning_of (plant_of c.args.plant.now).graph in let name = c.args.block.now in let call : Network → State → ℕ → machine.Reply × State = λ net st b. machine.set_of net st b c.args.at (Number c.args.number) in
    let b = c.in-Some.block.0 in let now = call net (plant_of c.args.plant.now).state b in
    let at = one_at c.block_named.result (position (bytes_eq name) (plant_of c.args.plant.now).graph.names) c.in-Some.block c.block_named.ensures c.in-Some.is in
    one_named (plant_of c.args.plant.now) name call (false) b at (plant_of c.set.new.self) (Some (machine.Taken c.in-Ok.taken.0)) (set_as net (plant_of c.args.plant.now) (plant_of c.set.new.self) b c.args.at (value_of c.number_value.result) (Number c.args.number) (Some (machine.Taken c.in-Ok.taken.0)) is c.in-Ok.ensures.answered) c.done.result c.done.ensures

pub returns-in-Err-clause-calls : goal.returns-in-Err-clause-calls
returns-in-Err-clause-calls c =
    let is : value_of c.number_value.result ≡ Number c.args.number = search rules in
    let net = net_of meaning_of (plant_of c.args.plant.now).graph in let name = c.args.block.now in let call : Network → State → ℕ → machine.Reply × State = λ net st b. machine.set_of net st b c.args.at (Number c.args.number) in
    let b = c.in-Some.block.0 in let now = call net (plant_of c.args.plant.now).state b in
    let at = one_at c.block_named.result (position (bytes_eq name) (plant_of c.args.plant.now).graph.names) c.in-Some.block c.block_named.ensures c.in-Some.is in
    one_named (plant_of c.args.plant.now) name call (false) b at (plant_of c.set.new.self) (refusal_of c.in-Err.fault) (set_as net (plant_of c.args.plant.now) (plant_of c.set.new.self) b c.args.at (value_of c.number_value.result) (Number c.args.number) (refusal_of c.in-Err.fault) is c.in-Err.ensures.answered) c.refusal-in-Err.result c.refusal-in-Err.ensures
