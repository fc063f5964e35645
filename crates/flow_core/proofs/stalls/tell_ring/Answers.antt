use Rattle.flow_core.specs.Serve.{stream}
use Rattle.flow_core.proofs.Stalling.{puts_fault, puts_write}
use Rattle.flow_core.proofs.Rings.{opener_breaks, rates_follow}
use Rattle.flow_core.proofs.stalls.tell_ring.Goals as goal

pub returns-in_err-tell_opener : goal.returns-in_err-tell_opener
returns-in_err-tell_opener g c =
    let broken = c.in_err-tell_opener.field-0.0 in
    puts_fault _ _ c.from_residual-in_err-tell_opener.result broken _ c.from_residual-in_err-tell_opener.ensures.0
    (opener_breaks (g.P.StalledPlant.seen c.args.plant.now) c.args.block.0 c.lowest-first.result.0 _ c.args.rates.now c.lowest-first.ensures.value c.full.ensures.value _ _ _ c.in_ok-tell_waits.ensures broken c.in_err-tell_opener.ensures)

pub returns : goal.returns
returns g c =
    rates_follow (g.P.StalledPlant.seen c.args.plant.now) c.args.block.0 c.lowest-first.result.0 _ c.args.rates.now c.lowest-first.ensures.value c.full.ensures.value _ _ _ c.in_ok-tell_waits.ensures c.write.result _ c.in_ok-tell_opener.ensures
    (puts_write (stream (g.E.ByteOut.contents c.tell_opener.new.errors) (g.E.ByteOut.failed c.tell_opener.new.errors)) (stream (g.E.ByteOut.contents c.write.new.self) (g.E.ByteOut.failed c.write.new.self)) c.write.result c.args.rates.now
    c.write.ensures.ok c.write.ensures.err c.write.ensures.counted)
