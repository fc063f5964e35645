use Rattle.std.proofs.Common.{◌∙◌, ap, length, sym}
use Rattle.tags.specs.TagList.{tags_from}
use Rattle.recordings.specs.Recent.{TagsState}
use Rattle.recordings.proofs.Forgetting.{kept_are_all}
use Rattle.recordings.proofs.recent_tags.RecentTags.in_memory.Goals as goal

pub returns : goal.returns
returns c =
    c.len.ensures
    ∙ sym (ap length (kept_are_all c.self.inside.from c.self.inside.forgotten.pieces c.self.inside.tags.tags c.self.invariant))
    ∙ ap (λ (s : TagsState). length (tags_from s.from s.tags)) c.self.view_is
