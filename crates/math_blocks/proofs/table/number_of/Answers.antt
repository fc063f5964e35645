use Rattle.std.proofs.Common.{◌≡◌, ◌-◌, ◌∙◌, length, map, min, ap, sym, arith}
use Rattle.std.proofs.lemmas.List.{length-map}
use Rattle.stream_model.specs.Lists.{item}
use Rattle.item_dispatch.proofs.Written.{read_item}
use Rattle.math_blocks.proofs.table.number_of.Goals as goal

pub returns : goal.returns
returns g c =
    let number = g.T.Number.number in
    let values = c.args.values.now in
    let place : c.min.result ≡ min c.args.byte (length (map number values) - 1) = c.min.ensures ∙ ap (λ n. min c.args.byte (n - 1)) (sym (length-map values number)) in
    read_item number values c.min.result c.index-values-min.result c.index-values-min.is (omega (arith, c.requires, c.min.ensures))
    ∙ ap (item (map number values)) place
