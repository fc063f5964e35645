use Rattle.plant.specs.Plant.{plant_of}
use Rattle.streaming.proofs.Working.{answered_step}
use Rattle.streaming.proofs.helped.step.Goals as goal

pub returns-in-Ok-Did : goal.returns-in-Ok-Did
returns-in-Ok-Did g c = record {
  right = c.step.ensures.right;
  spans = c.step.ensures.spans;
  worked = answered_step g.B.Block.meaning c.args.max (plant_of c.args.parts.now) (plant_of c.step.new.self) c.args.block.0 _ c.step.ensures.answered;
}

pub returns-in-Ok : goal.returns-in-Ok
returns-in-Ok g c = record {
  right = c.step.ensures.right;
  spans = c.step.ensures.spans;
  worked = answered_step g.B.Block.meaning c.args.max (plant_of c.args.parts.now) (plant_of c.step.new.self) c.args.block.0 _ c.step.ensures.answered;
}

pub returns-in-Err : goal.returns-in-Err
returns-in-Err g c = record {
  right = c.step.ensures.right;
  spans = c.step.ensures.spans;
  worked = answered_step g.B.Block.meaning c.args.max (plant_of c.args.parts.now) (plant_of c.step.new.self) c.args.block.0 _ c.step.ensures.answered;
}
