use Rattle.std.proofs.Common.{◌∙◌, ◌++◌, ap, arith, length, subst, sym}
use Rattle.stream_model.specs.Tags.{tags_within}
use Rattle.tags.specs.TagList.{insert_tags}
use Rattle.recordings.specs.Recent.{LieBefore, LieFrom, forgotten_tags}
use Rattle.recordings.proofs.Forgetting.{forgotten_more, forgotten_push, from_lies, kept_no_more, lie_before}
use Rattle.recordings.proofs.recent_tags.take_out.Goals as goal

pub returns-then-begins_before-clause-same : goal.returns-then-begins_before-clause-same
returns-then-begins_before-clause-same c =
    let gone = forgotten_tags c.args.forgotten.now.pieces in
    ap (λ us. insert_tags us c.prune.new.self.tags) (ap forgotten_tags c.and.ensures ∙ forgotten_push c.args.forgotten.now.pieces c.args.tags.now c.args.to)
    ∙ ap (insert_tags (gone ++ tags_within 0 c.args.to c.args.tags.now.tags)) c.prune.ensures.tags
    ∙ forgotten_more gone c.args.tags.now.tags c.args.to c.as_slice.ensures.ordered

pub returns-then-begins_before-clause-before : goal.returns-then-begins_before-clause-before
returns-then-begins_before-clause-before c = λ from le low.
    subst (LieBefore c.args.to) (sym c.and.ensures) (lie_before c.args.forgotten.now.pieces c.args.tags.now from c.args.to le low)

pub returns-then-begins_before-clause-behind : goal.returns-then-begins_before-clause-behind
returns-then-begins_before-clause-behind c = subst (LieFrom c.args.to) (sym c.prune.ensures.tags) (from_lies c.args.to c.args.tags.now.tags)

pub returns-then-begins_before-clause-spare : goal.returns-then-begins_before-clause-spare
returns-then-begins_before-clause-spare c =
    let tags = ap length c.prune.ensures.tags in
    let few = kept_no_more c.args.to c.args.tags.now.tags in
    let room = c.prune.ensures.spare in
    omega (arith, tags, few, room)
