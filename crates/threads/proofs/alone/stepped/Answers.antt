use Rattle.threads.proofs.Keeping.{step_kept}
use Rattle.threads.proofs.alone.stepped.Goals as goal

pub returns : goal.returns
returns g c = step_kept g.B.Block.meaning c.args.plant.now c.step.new.self c.args.block.0 c.args.most _ c.step.ensures
