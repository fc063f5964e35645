use Rattle.std.proofs.lemmas.List.{map-set}
use Rattle.firing_rules.specs.State.{progress_of}
use Rattle.firing_rules.proofs.firings.Firings.put.Goals as goal

pub returns : goal.returns
returns c = rw (← c.self.view_is) (map-set progress_of c.self.inside.progress.items c.args.block.0 c.args.next)
