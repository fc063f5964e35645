use Rattle.std.proofs.Common.{◌∙◌, ◌<◌, All, ap, subst, sym, map, []}
use Rattle.items.specs.Tags.{tag_of}
use Rattle.tags.specs.TagList.{insert_tags}
use Rattle.recordings.specs.Recent.{TagsState, LieFrom, forgotten_tags}
use Rattle.recordings.proofs.Forgetting.{insert_tags-empty, forgotten_none}
use Rattle.recordings.proofs.recent_tags.RecentTags.copy.Goals as goal

pub invariant_of-result : goal.invariant_of-result
invariant_of-result c = record {
  before = subst (λ ts. All (λ t. t.offset < c.self.inside.from) ts)
      (sym (ap forgotten_tags c.and.ensures ∙ forgotten_none c.self.inside.forgotten.pieces c.self.inside.tags)) c.self.invariant.before;
  behind = subst (LieFrom c.self.inside.from)
      (sym (c.insert_all.ensures.tags
      ∙ ap (λ ts. insert_tags (map tag_of c.as_slice.result.now) ts) (c.in_ok-reserve.ensures.tags ∙ c.new-tags.ensures.tags)
      ∙ ap (λ ts. insert_tags ts []) c.as_slice.ensures.tags
      ∙ insert_tags-empty c.self.inside.tags.tags c.as_slice.ensures.ordered)) c.self.invariant.behind;
}

pub returns-clause-tags : goal.returns-clause-tags
returns-clause-tags c =
    ap (λ us. insert_tags us c.insert_all.new.self.tags) (ap forgotten_tags c.and.ensures ∙ forgotten_none c.self.inside.forgotten.pieces c.self.inside.tags)
    ∙ ap (insert_tags (forgotten_tags c.self.inside.forgotten.pieces))
    (c.insert_all.ensures.tags
    ∙ ap (λ ts. insert_tags (map tag_of c.as_slice.result.now) ts) (c.in_ok-reserve.ensures.tags ∙ c.new-tags.ensures.tags)
    ∙ ap (λ ts. insert_tags ts []) c.as_slice.ensures.tags
    ∙ insert_tags-empty c.self.inside.tags.tags c.as_slice.ensures.ordered)
    ∙ ap (λ (s : TagsState). s.tags) c.self.view_is
