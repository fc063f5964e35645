use Rattle.std.proofs.Common.{ap, ◌∙◌, nat_eq}
use Rattle.firing_rules.proofs.Counters.{all_done_is}
use Rattle.firing_rules.proofs.firings.Firings.all_done.Goals as goal

pub returns : goal.returns
returns c =
    λ hs. rw (← c.self.view_is)
    (ap (λ n. nat_eq c.self.inside.done n) (c.len.ensures ∙ c.self.inside.progress.ok.0) ∙ all_done_is c.self.inside.progress.items c.self.inside.done c.self.invariant.done_is)
