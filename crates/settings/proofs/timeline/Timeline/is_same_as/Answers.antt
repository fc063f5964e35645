use Rattle.std.proofs.Common.{◌∙◌, sym, ap, map}
use Rattle.settings.specs.Values.{placed}
use Rattle.settings.proofs.Entries.{all_between}
use Rattle.settings.proofs.timeline.Timeline.is_same_as.Goals as goal

pub returns : goal.returns
returns c =
    let all = ap (map placed) (c.range.ensures.between tt ∙ all_between c.self.inside.settings.entries) in
    rw (← c.self.view_is) (λ yes. c.are_same.ensures.0 yes ∙ all, λ same. c.are_same.ensures.1 (same ∙ sym all))
