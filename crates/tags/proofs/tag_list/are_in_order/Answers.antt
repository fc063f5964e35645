use Rattle.std.proofs.Common.{◌≡◌, ◌-◌, ◌∙◌, ap, refl, subst, length, map, take, drop}
use Rattle.stream_model.specs.Tags.{IsOrdered}
use Rattle.items.specs.Tags.{tag_of}
use Rattle.tags.proofs.Rows.{from_place}
use Rattle.tags.proofs.Follows.{found_ordered, follows}
use Rattle.tags.proofs.tag_list.are_in_order.Goals as goal

pub returns : goal.returns
returns c = λ e.
    let xs = c.args.tags.now in
    let from = c.saturating_sub.result in
    let rest : take (length xs - from) (drop from xs) ≡ drop (c.args.kept - 1) xs = from_place xs xs from refl ∙ ap (λ n. drop n xs) c.saturating_sub.ensures in
    follows xs c.args.kept c.requires.within c.requires.ordered
    (subst (λ us. IsOrdered (map tag_of us)) rest (found_ordered (take (length xs - from) (drop from xs)) c.is_sorted.result c.is_sorted.ensures.cases e))
