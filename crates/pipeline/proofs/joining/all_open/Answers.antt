use Rattle.std.proofs.Common.{◌≡◌, ap, ◌∙◌, arith, replicate}
use Rattle.pipeline.specs.declared.end.End.TheVariants.{Open}
use Rattle.pipeline.proofs.joining.all_open.Goals as goal

pub returns : goal.returns
returns g c =
    let end = c.loop-blocks.auto._blocks-end in
    let test = c.loop-blocks-test.false in
    let same : c.loop-blocks._blocks ≡ c.args.blocks = omega (arith, end, test) in
    c.loop-blocks.invariant.made ∙ ap (λ n. replicate n Open) same
