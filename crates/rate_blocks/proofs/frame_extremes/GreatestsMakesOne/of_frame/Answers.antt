use Rattle.std.proofs.Common.{◌<◌, length, map, arith, ◌∙◌, subst, sym}
use Rattle.std.proofs.lemmas.List.{length-map}
use Rattle.stream_model.specs.Numbers.{IsItem}
use Rattle.item_dispatch.proofs.Written.{read_item}
use Rattle.rate_blocks.proofs.Chosen.{greatest_first}
use Rattle.rate_blocks.proofs.frame_extremes.GreatestsMakesOne.of_frame.Goals as goal

pub returns : goal.returns
returns g c =
    let number = g.T.Number.number in
    let t = g.T.Number.kind in
    let frame = c.args.frame.now in
    let first = c.index-frame-0.result in
    let some : 0 < length (map number frame) = omega (arith, length-map frame number, c.requires.some) in
    let fits = subst (λ y. IsItem t (number y)) (sym c.index-frame-0.is) (c.are_in_range.ensures 0 first (omega (arith, c.requires.some))) in
    c.greatest_among.ensures ∙ greatest_first t (map number frame) (number first) some fits (read_item number frame 0 first c.index-frame-0.is (omega (arith, c.requires.some)))
