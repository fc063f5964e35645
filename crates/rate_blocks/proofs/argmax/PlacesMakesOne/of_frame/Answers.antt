use Rattle.std.proofs.Common.{◌<◌, pos, arith, ap, ◌∙◌, w64}
use Rattle.std.proofs.lemmas.Int.{to_z_pos}
use Rattle.stream_model.specs.Numbers.{wrap}
use Rattle.rate_blocks.proofs.argmax.PlacesMakesOne.of_frame.Goals as goal

pub returns : goal.returns
returns g c =
    let t = g.T.Number.kind in
    let place = c.place_of_greatest.result in
    let small : place < 1024 = omega (arith, c.place_of_greatest.ensures.within, c.requires.few) in
    c.wrap.ensures ∙ ap (wrap t) (to_z_pos w64 place (omega (arith, small))) ∙ ap (λ r. wrap t (pos r)) c.place_of_greatest.ensures.is
