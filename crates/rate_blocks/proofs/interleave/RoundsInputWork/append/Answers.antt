use Rattle.std.proofs.Common.{[], length, map, get_or, arith, ap, sym, ◌∙◌}
use Rattle.std.proofs.lemmas.List.{length-map, get_or-map}
use Rattle.rate_blocks.proofs.interleave.RoundsInputWork.append.Goals as goal

pub interleave-requires-clause-same_length : goal.interleave-requires-clause-same_length
interleave-requires-clause-same_length g c k d h =
    let number = g.T.Number.number in
    let inputs = c.args.inputs.now in
    sym (length-map (get_or inputs k d).now number)
    ∙ ap length (sym (get_or-map (λ x. map number x.now) inputs k d [] h))
    ∙ c.requires.can.1 k [] (omega (arith, h, length-map inputs (λ x. map number x.now)))
