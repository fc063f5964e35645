use Rattle.std.proofs.Common.{◌≡◌, ap, ◌∙◌, arith, false, replicate}
use Rattle.pipeline.proofs.joining.none_full.Goals as goal

pub returns : goal.returns
returns c =
    let end = c.loop-blocks.auto._blocks-end in
    let test = c.loop-blocks-test.false in
    let same : c.loop-blocks._blocks ≡ c.args.blocks = omega (arith, end, test) in
    c.loop-blocks.invariant.made ∙ ap (λ n. replicate n false) same
