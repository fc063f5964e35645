use Rattle.std.proofs.Common.{◌≡◌}
use Rattle.machine_laws.specs.Steps.{steps_left}
use Rattle.flowgraph.specs.Flowgraph.{net_of}
use Rattle.plant.specs.Plant.{IsRight, spans_in, plant_of}
use Rattle.plant.proofs.Settles.{IsLed}
use Rattle.plant.proofs.parts.Parts.settle.Given as goal

abbrev pub invariant-rounds : goal.invariant-rounds
invariant-rounds g l = record {
  right : IsRight g.B.Block.meaning l.self;
  spans : spans_in l.self ≡ spans_in l.initial.self;
  led : IsLed g.B.Block.meaning l.max (plant_of l.initial.self) (plant_of l.self);
}

abbrev pub decreases-rounds : goal.decreases-rounds
decreases-rounds g l = steps_left (net_of g.B.Block.meaning (plant_of l.self).graph) (plant_of l.self).state
