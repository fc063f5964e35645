use Rattle.std.proofs.Common.{◌∙◌, ◌<◌, ap, arith, sym}
use Rattle.std.proofs.lemmas.List.Elements.{All-weaker}
use Rattle.stream_model.specs.Tags.{Tag, tags_within}
use Rattle.recordings.specs.Recent.{TagsState, forgotten_tags}
use Rattle.recordings.proofs.Forgetting.{within_behind}
use Rattle.recordings.proofs.recent_tags.RecentTags.range.Goals as goal

pub returns : goal.returns
returns c =
    let from = ap (λ (s : TagsState). s.from) c.self.view_is in
    let kept = c.requires in
    c.range.ensures
    ∙ sym (within_behind c.args.from c.args.to (forgotten_tags c.self.inside.forgotten.pieces) c.self.inside.tags.tags
    (All-weaker (λ (t : Tag). t.offset < c.self.inside.from) (λ (t : Tag). t.offset < c.args.from) (λ t h. omega (arith, from, kept, h)) (forgotten_tags c.self.inside.forgotten.pieces) c.self.invariant.before))
    ∙ ap (λ (s : TagsState). tags_within c.args.from c.args.to s.tags) c.self.view_is
