use Rattle.std.proofs.Common.{◌-◌, [], take, drop, get_or, arith, ap, sym, ◌∙◌}
use Rattle.std.specs.List.{slice_range}
use Rattle.flowgraph.proofs.RowLemmas.{is_row, has_row}
use Rattle.flowgraph.proofs.rows.Rows.row.Goals as goal

pub index-span-requires : goal.index-span-requires
index-span-requires g c = let low = has_row c.self.inside.items.items c.self.inside.spans.items c.args.row (rw c.self.view_is c.requires) in omega arith

pub returns : goal.returns
returns g c =
    let span = c.index-span.result.now in
    let row = is_row c.self.inside.items.items c.self.inside.spans.items c.self.invariant c.args.row span (rw c.self.view_is c.requires) in
    ap (λ items. take (span.to - span.from) (drop span.from items)) c.deref.ensures.value
    ∙ (λ i. slice_range c.self.inside.items.items (c.index-span.ensures i).from (c.index-span.ensures i).to)
    ∙ sym row.is
    ∙ ap (λ rows. get_or rows c.args.row []) c.self.view_is
