use Rattle.std.proofs.Common.{rules, ◌≡◌, ◌+◌, ◌∙◌, ap, sym, subst, arith, [], ◌∷◌, ◌++◌, map, insert, true, is_ok, cond}
use Rattle.stream_model.specs.Tags.{IsOrdered, insert_tag}
use Rattle.stream_model.proofs.TagOrder.{ordered_insert}
use Rattle.items.specs.Tags.{tag_of}
use Rattle.tags.specs.TagList.{kept_of}
use Rattle.tags.proofs.Rows.{from_place, one_more, one_behind}
use Rattle.tags.proofs.tag_list.Tags.insert_reserved.Goals as goal

pushed : (c : goal.After-push_reserved) → kept_of c.push_reserved.new.self.items c.self.inside.gone ≡ insert_tag (tag_of c.args.tag) (kept_of c.self.inside.row.items c.self.inside.gone)
pushed c =
    let row = c.self.inside.row.items in
    let gone = c.self.inside.gone in
    let tag = tag_of c.args.tag in
    ap (λ xs. kept_of xs gone) c.push_reserved.ensures.items
    ∙ (one_behind row gone c.args.tag (omega (arith, c.self.invariant.whole, c.self.invariant.few))
    ∙ sym (subst (λ xs. insert_tag tag (map tag_of xs) ≡ map tag_of xs ++ tag ∷ []) (from_place c.deref.result.now row gone c.deref.ensures.value) (c.comes_last.ensures c.if-comes_last.true)))

added : (c : goal.Else-is_err) → c.insert.new.self.items ≡ insert c.self.inside.row.items (c.self.inside.gone + c.place_of-place.result) c.args.tag
added c =
    let ok : is_ok c.insert.result ≡ true = search rules in
    let row = c.self.inside.row.items in
    c.insert.ensures.items ∙ ap (λ b. cond b (insert row (c.self.inside.gone + c.place_of-place.result) c.args.tag) row) ok

inserted : (c : goal.Else-is_err) → kept_of c.insert.new.self.items c.self.inside.gone ≡ insert_tag (tag_of c.args.tag) (kept_of c.self.inside.row.items c.self.inside.gone)
inserted c =
    let row = c.self.inside.row.items in
    let gone = c.self.inside.gone in
    let place = c.place_of-place.result in
    let tag = tag_of c.args.tag in
    ap (λ xs. kept_of xs gone) (added c)
    ∙ (one_more row gone place c.args.tag (omega (arith, c.self.invariant.whole, c.self.invariant.few))
    ∙ sym (subst (λ xs. insert_tag tag (map tag_of xs) ≡ insert (map tag_of xs) place tag) (from_place c.deref-2.result.now row gone c.deref-2.ensures.value) c.place_of-place.ensures.place))

pub invariant_of-self : goal.invariant_of-self
invariant_of-self c = record {
  ordered = subst IsOrdered (sym (pushed c)) (ordered_insert (tag_of c.args.tag) (kept_of c.self.inside.row.items c.self.inside.gone) c.self.invariant.ordered);
  whole = search rules;
  few = search rules;
  fits = search rules;
}

pub invariant_of-self-2 : goal.invariant_of-self-2
invariant_of-self-2 c = record {
  ordered = subst IsOrdered (sym (inserted c)) (ordered_insert (tag_of c.args.tag) (kept_of c.self.inside.row.items c.self.inside.gone) c.self.invariant.ordered);
  whole = search rules;
  few = search rules;
  fits = search rules;
}

pub returns-clause-tags : goal.returns-clause-tags
returns-clause-tags c = inserted c ∙ ap (λ v. insert_tag (tag_of c.args.tag) v.tags) c.self.view_is
