use Rattle.stream_model.specs.Machine as machine
use Rattle.plant.specs.Plant.{plant_of}
use Rattle.plant.specs.declared.answers.Did.{Did}
use Rattle.streaming.proofs.Working.{taken_work}
use Rattle.streaming.proofs.helped.take_back.Goals as goal

pub returns : goal.returns
returns g c = λ most. record {
  right = c.commit.ensures.right;
  spans = c.commit.ensures.spans;
  worked = taken_work g.B.Block.meaning most (λ (d : Did). machine.Did d.0) (plant_of c.args.parts.now) (plant_of c.commit.new.self) _ c.args.work.job c.args.work c.commit.result c.commit.ensures.taken;
}
