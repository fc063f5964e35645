use Rattle.std.proofs.Common.{◌<◌, length}
use Rattle.std.proofs.lemmas.List.{length-map}
use Rattle.flowgraph.specs.Flowgraph.{net_of}
use Rattle.plant.specs.Plant.{plant_of}
use Rattle.plant.proofs.Steps.{refused_stays, step_is_of_step}
use Rattle.streaming.proofs.Working.{answered_step}
use Rattle.streaming.proofs.beside.moves.Goals as goal

pub returns-in-Did-clause-led : goal.returns-in-Did-clause-led
returns-in-Did-clause-led g c = record {
  right = c.step.ensures.right;
  spans = c.step.ensures.spans;
  worked = answered_step g.B.Block.meaning c.args.max (plant_of c.args.parts.now) (plant_of c.step.new.self) c.args.block.0 _ c.step.ensures.answered;
}

pub returns-in-Done-clause-led : goal.returns-in-Done-clause-led
returns-in-Done-clause-led g c = record {
  right = c.step.ensures.right;
  spans = c.step.ensures.spans;
  worked = answered_step g.B.Block.meaning c.args.max (plant_of c.args.parts.now) (plant_of c.step.new.self) c.args.block.0 _ c.step.ensures.answered;
}

pub returns-in-Busy-clause-led : goal.returns-in-Busy-clause-led
returns-in-Busy-clause-led g c = record {
  right = c.step.ensures.right;
  spans = c.step.ensures.spans;
  worked = answered_step g.B.Block.meaning c.args.max (plant_of c.args.parts.now) (plant_of c.step.new.self) c.args.block.0 _ c.step.ensures.answered;
}

pub returns-in-Err-clause-led : goal.returns-in-Err-clause-led
returns-in-Err-clause-led g c = record {
  right = c.step.ensures.right;
  spans = c.step.ensures.spans;
  worked = answered_step g.B.Block.meaning c.args.max (plant_of c.args.parts.now) (plant_of c.step.new.self) c.args.block.0 _ c.step.ensures.answered;
}

pub returns-in-Err-clause-err : goal.returns-in-Err-clause-err
returns-in-Err-clause-err g c =
    let old = plant_of c.args.parts.now in
    let net = net_of g.B.Block.meaning old.graph in
    let in' : c.args.block.0 < length net.nodes = rw length-map c.requires.block in
    refused_stays _ old _ (step_is_of_step net old.capacities old.state c.args.block.0 c.args.max in') c.in-Err.field-0 c.in-Err.ensures.answered
