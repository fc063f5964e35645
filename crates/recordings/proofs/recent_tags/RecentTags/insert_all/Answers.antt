use Rattle.std.proofs.Common.{◌∙◌, ap, map}
use Rattle.items.specs.Tags.{tag_of}
use Rattle.tags.specs.TagList.{insert_tags}
use Rattle.recordings.specs.Recent.{TagsState, forgotten_tags}
use Rattle.recordings.proofs.Forgetting.{insert_tags-swap}
use Rattle.recordings.proofs.recent_tags.RecentTags.insert_all.Goals as goal

pub returns-clause-tags : goal.returns-clause-tags
returns-clause-tags c =
    c.take_out.ensures.same
    ∙ ap (insert_tags (forgotten_tags c.self.inside.forgotten.pieces)) c.insert_all.ensures.tags
    ∙ insert_tags-swap (forgotten_tags c.self.inside.forgotten.pieces) (map tag_of c.args.more.now) c.self.inside.tags.tags
    ∙ ap (λ (s : TagsState). insert_tags (map tag_of c.args.more.now) s.tags) c.self.view_is
