use Rattle.std.proofs.Common.{rules, ◌≡◌, subst, is_le, true}
use Rattle.stream_model.specs.Tags.{tag_cmp}
use Rattle.items.specs.Tags.{tag_of}
use Rattle.tags.proofs.Sorted.{stored_push}
use Rattle.tags.proofs.tag_list.comes_last.Goals as goal

pub returns-in-Some : goal.returns-in-Some
returns-in-Some c = λ e.
    let found = c.in-Some.ensures.item in
    let upto : is_le (tag_cmp (tag_of c.in-Some.last.now) (tag_of c.args.tag.now)) ≡ true = search rules in
    stored_push c.args.tag.now c.args.tags.now c.requires (search rules)
    (λ d. subst (λ t. is_le (tag_cmp (tag_of t) (tag_of c.args.tag.now)) ≡ true) (found.3.1 d) upto)
