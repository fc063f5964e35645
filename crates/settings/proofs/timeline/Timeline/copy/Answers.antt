use Rattle.std.proofs.Common.{◌∙◌, ap, map}
use Rattle.settings.specs.Values.{placed}
use Rattle.settings.proofs.Entries.{all_between}
use Rattle.settings.proofs.timeline.Timeline.copy.Goals as goal

pub returns : goal.returns
returns c =
    rw (← c.self.view_is) (c.in_ok-put_all.ensures ∙ ap (map placed) (c.range.ensures.between tt ∙ all_between c.self.inside.settings.entries))
