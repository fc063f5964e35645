use Rattle.std.proofs.Common.{rules, ◌≡◌, ◌+◌, ◌-◌, ◌∙◌, ap, sym, subst, arith, length, take, drop, length-drop, vec_len}
use Rattle.std.proofs.lemmas.List.{with_items_is}
use Rattle.stream_model.specs.Tags.{IsOrdered}
use Rattle.tags.specs.TagList.{tags_from, kept_of}
use Rattle.tags.proofs.Rows.{more_gone, ordered_from}
use Rattle.tags.proofs.tag_list.Tags.prune.Goals as goal

-- what is behind the tags that are gone then
kept : (c : goal.After-self-1) → kept_of c.self.inside.row.items (c.self.inside.gone + c.count_before.result) ≡ tags_from c.args.before (kept_of c.self.inside.row.items c.self.inside.gone)
kept c = more_gone c.args.before _ _ c.self.inside.gone c.count_before.result c.deref.ensures.value c.count_before.ensures.point c.count_before.ensures.bound

pub invariant_of-self : goal.invariant_of-self
invariant_of-self c = record {
  ordered = subst IsOrdered (sym (kept c)) (ordered_from c.args.before c.self.inside.row.items c.self.inside.gone c.self.invariant.ordered);
  whole = c.self.invariant.whole;
  few = omega arith;
  fits = omega arith;
}

pub returns-then-gone-kept-clause-tags : goal.returns-then-gone-kept-clause-tags
returns-then-gone-kept-clause-tags c = kept c ∙ ap (λ v. tags_from c.args.before v.tags) c.self.view_is

-- what is kept is moved to the front
moved : (c : goal.After-self-else-gone-kept-2-1) → c.truncate.new.self.items ≡ drop (c.self.inside.gone + c.count_before.result) c.self.inside.row.items
moved c =
    let back = with_items_is c.self.inside.row c.move_to_front.new.row (c.move_to_front.ensures.len ∙ c.deref_mut.ensures.len) in
    let count : c.len.result - (c.self.inside.gone + c.count_before.result) ≡ length c.deref_mut.result.now - (c.self.inside.gone + c.count_before.result) = ap (λ n. n - (c.self.inside.gone + c.count_before.result)) (c.len.ensures ∙ sym c.deref_mut.ensures.len) in
    c.truncate.ensures.items
    ∙ (ap (take (c.len.result - (c.self.inside.gone + c.count_before.result))) back
    ∙ (ap (λ n. take n c.move_to_front.new.row) count
    ∙ (c.move_to_front.ensures.front ∙ ap (drop (c.self.inside.gone + c.count_before.result)) c.deref_mut.ensures.value)))

left : (c : goal.After-self-else-gone-kept-2-1) → kept_of c.truncate.new.self.items 0 ≡ tags_from c.args.before (kept_of c.self.inside.row.items c.self.inside.gone)
left c =
    ap (λ row. kept_of row 0) (moved c)
    ∙ more_gone c.args.before _ _ c.self.inside.gone c.count_before.result c.deref.ensures.value c.count_before.ensures.point c.count_before.ensures.bound

pub invariant_of-self-else-gone-kept : goal.invariant_of-self-else-gone-kept
invariant_of-self-else-gone-kept c =
    let whole : vec_len c.truncate.new.self ≡ length c.truncate.new.self.items = search rules in
    let short = ap length (moved c) ∙ length-drop (c.self.inside.gone + c.count_before.result) c.self.inside.row.items in
    record {
      ordered = subst IsOrdered (sym (left c)) (ordered_from c.args.before c.self.inside.row.items c.self.inside.gone c.self.invariant.ordered);
      whole = whole;
      few = omega arith;
      fits = omega (arith, whole, short, c.truncate.ensures.capacity, c.self.invariant.fits, c.self.invariant.whole);
    }

pub returns-else-gone-kept-clause-tags : goal.returns-else-gone-kept-clause-tags
returns-else-gone-kept-clause-tags c = left c ∙ ap (λ v. tags_from c.args.before v.tags) c.self.view_is
