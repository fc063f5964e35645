use Rattle.std.proofs.Common.{◌≡◌, length, arith, refl}
use Rattle.magbelu_c.specs.Cuts.{sink_row}
use Rattle.magbelu_c.proofs.TableRows.{one_more, all_rows}
use Rattle.magbelu_c.proofs.cuts.sink_rows.Goals as goal

pub loop-sink-preserved : goal.loop-sink-preserved
loop-sink-preserved c = one_more sink_row c.args.sinks.now c.loop-sink.sink-index _ c.loop-sink.rows.items _ _ c.loop-sink-test.true c.loop-sink.invariant c.in_ok-push.ensures.items refl

pub returns : goal.returns
returns c =
    let last : c.loop-sink.sink-index ≡ length c.args.sinks.now = (let end = c.loop-sink-test.false in let most = c.loop-sink.auto.sink-index-end in omega arith) in
    all_rows sink_row c.args.sinks.now c.loop-sink.sink-index c.loop-sink.rows.items last c.loop-sink.invariant
