use Rattle.plant.specs.Plant.{plant_of}
use Rattle.streaming.proofs.Holding.{moved_kept}
use Rattle.streaming.proofs.streaming_plant.StreamingPlant.round_beside.Goals as goal

pub returns-clause-moved : goal.returns-clause-moved
returns-clause-moved g c =
    rw (← c.self.view_is)
    (moved_kept g.B.Block.meaning c.args.held.now c.args.max c.args.max (plant_of c.self.inside.parts) (plant_of c.held_round.new.parts) (plant_of c.forget_taken.new.parts) c.held_round.ensures.led.worked.same c.forget_taken.ensures.same c.in_ok-moved.moved c.in_ok-moved.ensures.moved)
