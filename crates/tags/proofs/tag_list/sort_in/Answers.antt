use Rattle.std.proofs.Common.{◌≡◌, ◌-◌, ◌++◌, ◌∙◌, ap, sym, subst, length, map, take, drop}
use Rattle.std.specs.List.Sorted.{IsPermutation}
use Rattle.std.proofs.lemmas.List.{take-append-drop, take-append-le}
use Rattle.stream_model.specs.Tags.{IsOrdered}
use Rattle.items.specs.Tags.{tag_of}
use Rattle.tags.specs.TagList.{insert_tags}
use Rattle.tags.proofs.Sorted.{in_place, sorted_in, parted, all_behind}
use borrow.Rule.Slice.PartMut.{put_mid}
use Rattle.tags.proofs.tag_list.sort_in.Goals as goal

pub returns-then-are_in_order-clause-tags : goal.returns-then-are_in_order-clause-tags
returns-then-are_in_order-clause-tags c = in_place c.args.kept c.args.tags.now (c.are_in_order.ensures c.if-are_in_order.true)

pub returns-in-Some-clause-tags : goal.returns-in-Some-clause-tags
returns-in-Some-clause-tags c =
    let xs = c.args.tags.now in
    let before = c.split_at.result.0.now in
    let more = c.split_at.result.1.now in
    let place = c.count_upto-place.result in
    let ys = c.sort_unstable.new.self in
    let bound = c.count_upto-place.ensures.bound in
    let whole : before ++ more ≡ xs = subst (λ us. us ++ more ≡ xs) (sym c.split_at.ensures.front) (subst (λ us. take c.args.kept xs ++ us ≡ xs) (sym c.split_at.ensures.back) (take-append-drop c.args.kept xs)) in
    let moved : IsPermutation (drop place before ++ more) ys =
    subst (λ us. IsPermutation us ys) (all_behind place before more bound) (subst (λ us. IsPermutation (take (length us - place) (drop place us)) ys) (sym whole) c.sort_unstable.ensures.permutation) in
    ap (λ us. map tag_of (put_mid place (length us - place) us ys)) (sym whole)
    ∙ (ap (map tag_of) (parted place (before ++ more) ys ∙ ap (λ us. us ++ ys) (take-append-le place before more bound))
    ∙ (sorted_in c.in-Some.least.now before place bound c.count_upto-place.ensures.point more ys (subst (λ us. IsOrdered (map tag_of us)) (sym c.split_at.ensures.front) c.requires.ordered) c.in-Some.ensures.least moved c.sort_unstable.ensures.sorted
    ∙ (ap (λ us. insert_tags (map tag_of us) (map tag_of before)) c.split_at.ensures.back ∙ ap (λ us. insert_tags (map tag_of (drop c.args.kept xs)) (map tag_of us)) c.split_at.ensures.front)))
