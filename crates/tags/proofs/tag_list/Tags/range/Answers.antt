use Rattle.std.proofs.Common.{◌≡◌, ◌-◌, ◌∙◌, ap, arith, map, take, drop}
use Rattle.stream_model.specs.Tags.{tags_within}
use Rattle.items.specs.Tags.{tag_of}
use Rattle.tags.proofs.Cuts.{between_cuts}
use Rattle.tags.proofs.tag_list.Tags.range.Goals as goal

pub returns : goal.returns
returns c =
    let tags = c.as_slice-tags.result.now in
    let first = c.count_before-first.result in
    let end = c.count_before-end.result in
    let whole : c.max.result - first ≡ end - first = omega (arith, c.max.ensures) in
    ap (λ n. map tag_of (take n (drop first tags))) whole
    ∙ (between_cuts c.args.from c.args.to tags first end c.count_before-first.ensures.point c.count_before-end.ensures.point c.count_before-first.ensures.bound c.count_before-end.ensures.bound
    ∙ ap (tags_within c.args.from c.args.to) c.as_slice-tags.ensures.tags)
