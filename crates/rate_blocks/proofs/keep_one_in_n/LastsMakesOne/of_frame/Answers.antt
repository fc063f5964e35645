use Rattle.std.proofs.Common.{◌-◌, map, arith, ap, sym, ◌∙◌}
use Rattle.std.proofs.lemmas.List.{length-map}
use Rattle.stream_model.specs.Lists.{item}
use Rattle.item_dispatch.proofs.Written.{read_item}
use Rattle.rate_blocks.proofs.keep_one_in_n.LastsMakesOne.of_frame.Goals as goal

pub returns : goal.returns
returns g c =
    let number = g.T.Number.number in
    let frame = c.args.frame.now in
    read_item number frame _ c.index-frame-frame.result c.index-frame-frame.is (omega (arith, c.requires.some))
    ∙ ap (λ l. item (map number frame) (l - 1)) (sym (length-map frame number))
