use Rattle.plant.proofs.Following.{live_first}
use Rattle.plant.proofs.parts.Parts.lowest_live.Goals as goal

pub loop-block-init : goal.loop-block-init
loop-block-init g c = live_first c.args.self.now.firings
