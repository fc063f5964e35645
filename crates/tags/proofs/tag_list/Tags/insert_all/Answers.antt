use Rattle.std.proofs.Common.{rules, ◌≡◌, ◌+◌, ◌-◌, ◌≤◌, List, ◌++◌, ◌∙◌, ap, sym, subst, arith, length, map, take, drop, vec_len}
use Rattle.std.proofs.lemmas.List.{length-append}
use borrow.Rule.Slice.PartMut.{put_mid}
use Rattle.stream_model.specs.Tags.{IsOrdered}
use Rattle.items.specs.declared.marks.Tag.{Tag}
use Rattle.items.specs.Tags.{tag_of}
use Rattle.tags.specs.TagList.{insert_tags, kept_of}
use Rattle.tags.proofs.Sorted.{length-parted, parted_row, kept_parted, row_and_more, ordered_insert_tags}
use Rattle.tags.proofs.tag_list.Tags.insert_all.Goals as goal

-- the row as it is then
abbrev row : (c : goal.After-self-1) → List Tag
row c = take (vec_len c.append.new.row) (put_mid c.self.inside.gone (length c.deref_mut.result.now - c.self.inside.gone) c.deref_mut.result.now c.sort_in.new.tags ++ drop (length (put_mid c.self.inside.gone (length c.deref_mut.result.now - c.self.inside.gone) c.deref_mut.result.now c.sort_in.new.tags)) c.append.new.row.items)

longer : (c : goal.After-self-1) → length c.append.new.row.items ≡ vec_len c.self.inside.row + length c.args.more.now
longer c = ap length c.append.ensures.items ∙ length-append c.self.inside.row.items c.args.more.now ∙ omega (arith, c.self.invariant.whole)

within : (c : goal.After-self-1) → c.self.inside.gone ≤ length c.append.new.row.items
within c = omega (arith, longer c, c.self.invariant.few)

full : (c : goal.After-self-1) → length (take c.self.inside.gone c.append.new.row.items ++ c.sort_in.new.tags) ≡ length c.append.new.row.items
full c = length-parted c.self.inside.gone c.deref_mut.result.now c.append.new.row.items c.sort_in.new.tags c.deref_mut.ensures.value (within c) c.sort_in.ensures.len

is_row : (c : goal.After-self-1) → row c ≡ take c.self.inside.gone c.append.new.row.items ++ c.sort_in.new.tags
is_row c =
    let whole : vec_len c.append.new.row ≡ length c.append.new.row.items = search rules in
    parted_row c.self.inside.gone (vec_len c.append.new.row) c.deref_mut.result.now c.append.new.row.items c.sort_in.new.tags c.deref_mut.ensures.value whole (full c)

kept : (c : goal.After-self-1) → kept_of (row c) c.self.inside.gone ≡ insert_tags (map tag_of c.args.more.now) (kept_of c.self.inside.row.items c.self.inside.gone)
kept c =
    let gone = c.self.inside.gone in
    ap (λ us. kept_of us gone) (is_row c)
    ∙ (kept_parted gone c.append.new.row.items c.sort_in.new.tags (within c)
    ∙ (c.sort_in.ensures.tags
    ∙ row_and_more gone (c.len.result - gone) c.deref_mut.result.now c.self.inside.row.items c.args.more.now (c.deref_mut.ensures.value ∙ c.append.ensures.items) (omega (arith, c.self.invariant.whole, c.self.invariant.few)) (omega (arith, c.self.invariant.whole, c.len.ensures))))

pub invariant_of-self : goal.invariant_of-self
invariant_of-self c =
    let whole : vec_len c.append.new.row ≡ length c.append.new.row.items = search rules in
    let long = ap length (is_row c) ∙ full c in
    record {
      ordered = subst IsOrdered (sym (kept c)) (ordered_insert_tags (map tag_of c.args.more.now) (kept_of c.self.inside.row.items c.self.inside.gone) c.self.invariant.ordered);
      whole = whole ∙ sym long;
      few = omega (arith, whole, longer c, c.self.invariant.few);
      fits = omega (arith, whole, longer c, c.self.invariant.few, c.append.ensures.capacity, c.requires, ap (λ v. v.spare) c.self.view_is);
    }
