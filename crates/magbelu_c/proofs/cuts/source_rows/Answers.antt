use Rattle.std.proofs.Common.{◌≡◌, length, arith, refl}
use Rattle.magbelu_c.specs.Cuts.{source_row}
use Rattle.magbelu_c.proofs.TableRows.{one_more, all_rows}
use Rattle.magbelu_c.proofs.cuts.source_rows.Goals as goal

pub loop-source-preserved : goal.loop-source-preserved
loop-source-preserved c = one_more source_row c.args.sources.now c.loop-source.source-index _ c.loop-source.rows.items _ _ c.loop-source-test.true c.loop-source.invariant c.in_ok-push.ensures.items refl

pub returns : goal.returns
returns c =
    let last : c.loop-source.source-index ≡ length c.args.sources.now = (let end = c.loop-source-test.false in let most = c.loop-source.auto.source-index-end in omega arith) in
    all_rows source_row c.args.sources.now c.loop-source.source-index c.loop-source.rows.items last c.loop-source.invariant
