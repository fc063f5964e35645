use Rattle.std.proofs.Common.{◌<◌, refl, length, subst, ◌∙◌}
use Rattle.flowgraph.specs.Flowgraph.{net_of}
use Rattle.streaming.specs.Streaming.{StreamingState}
use Rattle.pipeline.proofs.Delivering.{on_err}
use Rattle.pipeline.proofs.Moving.{begins_more, goes_more, goes_none}
use Rattle.pipeline.proofs.pipeline.Pipeline.flush.Goals as goal

pub loop-block-init : goal.loop-block-init
loop-block-init g c = record {
  goes = goes_none g.R.Read.remaining g.W.Write.contents _ _ _ _ refl;
  same = refl;
  written = λ h. h;
}

pub returns-in_err-flush_own-clause-begins : goal.returns-in_err-flush_own-clause-begins
returns-in_err-flush_own-clause-begins g c =
    on_err c.from_residual.result
    (begins_more g.R.Read.remaining g.W.Write.contents g.B.Block.meaning c.args.self.now.plant c.loop-block.self.plant c.flush_own.new.self.plant c.args.self.now.ends.items c.loop-block.self.ends.items c.flush_own.new.self.ends.items
    c.loop-block.invariant.goes c.in_err-flush_own.ensures.begins)

pub loop-block-preserved : goal.loop-block-preserved
loop-block-preserved g c = record {
  goes = goes_more g.R.Read.remaining g.W.Write.contents g.B.Block.meaning c.args.self.now.plant c.loop-block.self.plant c.flush_own.new.self.plant c.args.self.now.ends.items c.loop-block.self.ends.items c.flush_own.new.self.ends.items
      c.loop-block.invariant.goes c.in_ok-flush_own.ensures.goes;
  same = c.flush_own.ensures.same ∙ c.loop-block.invariant.same;
  written = λ h b in'. c.flush_own.ensures.written b (c.loop-block.invariant.written h b
      (subst (λ (p : StreamingState _). b < length (net_of g.B.Block.meaning p.plant.graph).nodes) c.flush_own.ensures.same in'));
}
