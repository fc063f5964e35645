use Rattle.plant.specs.Plant.{plant_of}
use Rattle.streaming.specs.Working.{IsLedOn}
use Rattle.streaming.proofs.Working.{answered_claim, led_then}
use Rattle.streaming.proofs.helped.give_away.Goals as goal

pub returns-in-Err-give : goal.returns-in-Err-give
returns-in-Err-give g c =
    let claimed : IsLedOn g.B.Block.meaning c.args.max c.args.parts.now c.claim.new.self = record {
      right = c.claim.ensures.right;
      spans = c.claim.ensures.spans;
      worked = answered_claim g.B.Block.meaning c.args.max (plant_of c.args.parts.now) (plant_of c.claim.new.self) c.args.block.0 _ c.claim.ensures.answered;
    } in
    led_then g.B.Block.meaning c.args.max c.args.parts.now c.claim.new.self c.take_back.new.parts claimed (c.take_back.ensures c.args.max)

pub returns-in_default : goal.returns-in_default
returns-in_default g c = record {
  right = c.claim.ensures.right;
  spans = c.claim.ensures.spans;
  worked = answered_claim g.B.Block.meaning c.args.max (plant_of c.args.parts.now) (plant_of c.claim.new.self) c.args.block.0 _ c.claim.ensures.answered;
}

pub returns-in-Ok : goal.returns-in-Ok
returns-in-Ok g c = record {
  right = c.claim.ensures.right;
  spans = c.claim.ensures.spans;
  worked = answered_claim g.B.Block.meaning c.args.max (plant_of c.args.parts.now) (plant_of c.claim.new.self) c.args.block.0 _ c.claim.ensures.answered;
}

pub returns-in-Err : goal.returns-in-Err
returns-in-Err g c = record {
  right = c.claim.ensures.right;
  spans = c.claim.ensures.spans;
  worked = answered_claim g.B.Block.meaning c.args.max (plant_of c.args.parts.now) (plant_of c.claim.new.self) c.args.block.0 _ c.claim.ensures.answered;
}
