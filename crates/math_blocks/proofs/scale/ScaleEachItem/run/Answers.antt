use Rattle.std.proofs.Common.{◌∙◌, ◌++◌, map, ap, sym, w16, w64, FitsSigned, rules}
use Rattle.std.proofs.lemmas.Int.{to_z-of_z}
use Rattle.std.proofs.lemmas.List.{length-map}
use Rattle.stream_model.specs.Lists.{item, listed}
use Rattle.kind_model.specs.Kernels.{scaled, scale_sat}
use Rattle.math_blocks.proofs.scale.ScaleEachItem.run.Goals as goal

pub returns-clause-items : goal.returns-clause-items
returns-clause-items g c =
    let xs = map g.T.Number.number c.args.items.now in
    let shift = c.args.self.now.shift in
    let fits : FitsSigned w16 c.narrow.result = search rules in
    c.append_scale_sat.ensures.items
    ∙ ap (λ ys. map g.T.Number.number c.args.out.now.items ++ ys)
    (ap (λ factor. scale_sat g.T.Number.kind xs factor shift) (to_z-of_z w16 c.narrow.result fits ∙ (rw (to_z-of_z w64 c.args.number c.ranges.number) at c.narrow.ensures))
    ∙ (λ i. listed (length-map c.args.items.now g.T.Number.number i) (λ k. scaled (sym c.requires.same_type i) c.args.number shift (item xs k))))
