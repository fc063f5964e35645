use Rattle.std.proofs.Common.{◌+◌, ◌*◌, ◌<◌, length, arith, ap, sym, ◌∙◌, subst}
use Rattle.flowgraph.specs.Flowgraph.{net_of}
use Rattle.slices.proofs.Waiting.{IsWaiting, wait_none, wait_one}
use Rattle.slices.proofs.overlap.longest_wait.Goals as goal
use Rattle.slices.proofs.overlap.longest_wait.Goals.{then-is_keeper, else-is_keeper}

pub loop-block-preserved : goal.loop-block-preserved
loop-block-preserved g c =
    let net = net_of g.B.Block.meaning c.args.graph.now in
    let in' : c.loop-block.block < length net.nodes = (let n = c.len-block-end.ensures.nodes in let t = c.loop-block-test.true in omega arith) in
    elim c.if-is_keeper.branch [
      | then-is_keeper w ↦ subst (λ n. IsWaiting net c.args.firings.now c.args.first.now c.args.tagged.now c.args.there.now n (c.loop-block.block + 1)) (sym w.longest-is)
          (wait_one net c.args.firings.now c.args.first.now c.args.tagged.now c.args.there.now c.requires c.loop-block.longest c.loop-block.block c.loop-block.invariant in' w.wait.result w.max-longest.result
          (sym c.is_keeper.ensures ∙ w.if-is_keeper.true)
          (let s = w.right_at-right.ensures in let f = w.wait.ensures.few in omega arith)
          (λ i h. w.wait.ensures.least i (let s = w.right_at-right.ensures in let m = ap (λ n. i * n) w.from.ensures in omega arith))
          (λ i h. (let e = w.wait.ensures.enough i h in let s = w.right_at-right.ensures in let m = ap (λ n. i * n) w.from.ensures in omega arith))
          w.max-longest.ensures)
      | else-is_keeper w ↦ subst (λ n. IsWaiting net c.args.firings.now c.args.first.now c.args.tagged.now c.args.there.now n (c.loop-block.block + 1)) (sym w.longest-is)
          (wait_none net c.args.firings.now c.args.first.now c.args.tagged.now c.args.there.now c.requires c.loop-block.longest c.loop-block.block c.loop-block.invariant in' (sym c.is_keeper.ensures ∙ w.if-is_keeper.false))
    ]
