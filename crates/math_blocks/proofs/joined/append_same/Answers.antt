use Rattle.std.proofs.Common.{◌∙◌, ◌++◌, map, ap}
use Rattle.std.proofs.lemmas.List.{length-map, map-append}
use Rattle.stream_model.specs.Lists.{item, listed}
use Rattle.math_blocks.proofs.Joining.{whole_listed}
use Rattle.math_blocks.proofs.joined.append_same.Goals as goal

pub returns-clause-items : goal.returns-clause-items
returns-clause-items g c =
    let number = g.T.Number.number in
    let items = c.args.items.now in
    let out = c.args.out.now.items in
    ap (map number) c.append.ensures.items ∙ map-append number out items
    ∙ ap (λ ys. map number out ++ ys) (whole_listed (map number items) ∙ ap (λ n. listed n (λ k. item (map number items) k)) (length-map items number))
