use Rattle.std.proofs.Common.{◌≡◌, length, arith, refl}
use Rattle.magbelu_c.specs.Cuts.{part_row}
use Rattle.magbelu_c.proofs.TableRows.{one_more, all_rows}
use Rattle.magbelu_c.proofs.cuts.part_rows.Goals as goal

pub loop-part-preserved : goal.loop-part-preserved
loop-part-preserved c = one_more part_row c.args.parts.now c.loop-part.part-index _ c.loop-part.rows.items _ _ c.loop-part-test.true c.loop-part.invariant c.in_ok-push.ensures.items refl

pub returns : goal.returns
returns c =
    let last : c.loop-part.part-index ≡ length c.args.parts.now = (let end = c.loop-part-test.false in let most = c.loop-part.auto.part-index-end in omega arith) in
    all_rows part_row c.args.parts.now c.loop-part.part-index c.loop-part.rows.items last c.loop-part.invariant
