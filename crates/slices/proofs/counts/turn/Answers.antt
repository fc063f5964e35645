use Rattle.std.proofs.Common.{inl, inr, arith}
use Rattle.flowgraph.specs.Flowgraph.{net_of}
use Rattle.slices.proofs.Counting.{count_step}
use Rattle.slices.proofs.counts.turn.Goals as goal
use Rattle.slices.proofs.counts.turn.Goals.{then-raise, else-raise}

pub loop-block-preserved : goal.loop-block-preserved
loop-block-preserved g c =
    count_step (net_of g.B.Block.meaning c.args.graph.now) c.args.firings.now c.args.iterations c.args.counts.now c.loop-block.counts c.loop-block.risen c.loop-block.block c.loop-block.invariant (let n = c.len-block-end.ensures.nodes in let t = c.loop-block-test.true in omega arith) c.next-count.result c.next-count.ensures
    c.raise.new.numbers c.if-raise.risen c.raise.ensures.raised
    (elim c.if-raise.branch [ then-raise w ↦ inl (w.risen-is, c.raise.ensures.lower w.if-raise.true) | else-raise w ↦ inr (w.risen-is, c.raise.ensures.not_lower w.if-raise.false) ])
