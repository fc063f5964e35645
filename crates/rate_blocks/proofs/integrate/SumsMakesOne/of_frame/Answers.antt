use Rattle.std.proofs.Common.{ap, ◌∙◌, w64, FitsSigned, rules}
use Rattle.std.proofs.lemmas.Int.{to_z-of_z}
use Rattle.stream_model.specs.Numbers.{wrap}
use Rattle.rate_blocks.proofs.integrate.SumsMakesOne.of_frame.Goals as goal

pub returns : goal.returns
returns g c =
    let fits : FitsSigned w64 c.sum_of.result = search rules in
    c.wrap.ensures ∙ ap (wrap g.T.Number.kind) (to_z-of_z w64 c.sum_of.result fits ∙ c.sum_of.ensures)
