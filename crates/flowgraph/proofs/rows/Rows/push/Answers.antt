use Rattle.std.proofs.Common.{rules, ◌≡◌, ◌++◌, ◌∷◌, [], length, ap, ◌∙◌}
use Rattle.flowgraph.specs.Rows.{rows_of}
use Rattle.flowgraph.proofs.RowLemmas.{pushed}
use Rattle.flowgraph.proofs.rows.Rows.push.Goals as goal

pub returns : goal.returns
returns g c =
    let items = c.in_ok-extend_from_slice.ensures.items in
    let spans = c.in_ok-push.ensures.items ∙ ap (λ ps. ps ++ record { from = c.len-from.result; to = c.len-to.result } ∷ []) c.in_ok-reserve.ensures.items in
    let first : c.len-from.result ≡ length c.self.inside.items.items = search rules in
    let last : c.len-to.result ≡ length (c.self.inside.items.items ++ c.args.row.now) = (let l = ap length items in search rules) in
    (λ i. rows_of (items i) (spans i))
    ∙ pushed c.self.inside.items.items c.self.inside.spans.items c.self.invariant c.args.row.now (record { from = c.len-from.result; to = c.len-to.result }) first last
    ∙ ap (λ rows. rows ++ c.args.row.now ∷ []) c.self.view_is
