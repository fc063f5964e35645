use Rattle.std.proofs.Common.{◌+◌, ◌*◌, ◌/◌, ◌%◌, length, map, refl, arith}
use Rattle.stream_model.specs.Lists.{item}
use Rattle.kind_model.specs.Rates.{from_place}
use Rattle.item_dispatch.proofs.Written.{written_all}
use Rattle.rate_blocks.proofs.Frames.{frame_within, all_frames}
use Rattle.rate_blocks.proofs.Reordered.{permuted_more}
use Rattle.rate_blocks.proofs.permute.FramesLaneWork.make.Goals as goal

pub loop-k-preserved : goal.loop-k-preserved
loop-k-preserved g c =
    let b = c.args.self.now in
    let n = length b.order.now in
    let within = frame_within c.loop-k.k b.count n (length c.args.out.now) c.loop-k-test.true c.requires.2 in
    permuted_more g.T.Number.number b.order.now c.loop-k.k _ _ _ c.args.items.now c.loop-k.out c.reorder.new.out c.requires.0 refl (omega arith) (omega arith)
    (omega (arith, within)) (omega arith) c.reorder.ensures c.loop-k.invariant

pub returns : goal.returns
returns g c =
    let b = c.args.self.now in
    let n = length b.order.now in
    let xs = map g.T.Number.number c.args.items.now in
    let past = all_frames c.loop-k.k b.count n (length c.args.out.now) (omega (arith, c.loop-k-test.false)) c.requires.2 in
    written_all g.T.Number.number c.loop-k.out (length c.args.out.now) (λ k. item xs (k / n * n + from_place b.order.now (k % n))) (omega arith)
    (λ j h. c.loop-k.invariant j (omega (arith, h, past)))
