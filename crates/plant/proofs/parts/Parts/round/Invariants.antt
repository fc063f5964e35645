use Rattle.std.proofs.Common.{◌≡◌}
use Rattle.plant.specs.Plant.{IsRight, spans_in, plant_of}
use Rattle.plant.proofs.Settles.{IsStepped}
use Rattle.plant.proofs.parts.Parts.round.Given as goal

abbrev pub invariant-loop-block : goal.invariant-loop-block
invariant-loop-block g l = record {
  right : IsRight g.B.Block.meaning l.self;
  spans : spans_in l.self ≡ spans_in l.initial.self;
  stepped : IsStepped g.B.Block.meaning l.max l.order (plant_of l.initial.self) (plant_of l.self) l.block-index l.moved;
}
