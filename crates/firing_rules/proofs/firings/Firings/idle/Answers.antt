use Rattle.firing_rules.proofs.Counters.{idle_is}
use Rattle.firing_rules.proofs.firings.Firings.idle.Goals as goal

pub returns : goal.returns
returns c = λ hs. rw (← c.self.view_is) (idle_is c.self.inside.progress.items c.self.inside.busy c.self.invariant.busy_is)
