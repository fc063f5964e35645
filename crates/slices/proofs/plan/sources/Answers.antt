use Rattle.std.proofs.Common.{◌*◌, sym, ap, ◌∙◌, Vec}
use Rattle.stream_model.specs.Network.{role_at, is_source}
use Rattle.flowgraph.specs.Flowgraph.{net_of}
use Rattle.slices.specs.Plans.{source_of}
use Rattle.slices.proofs.Planning.{picked_one, picked_none}
use Rattle.slices.proofs.plan.sources.Goals as goal
use Rattle.slices.proofs.plan.sources.Goals.{then-is_source+in_ok-push, else-is_source}

pub loop-block-preserved : goal.loop-block-preserved
loop-block-preserved g c =
    elim c.if-is_source.branch [
      | then-is_source+in_ok-push w ↦ picked_one (source_of c.args.firings.now c.args.overlap) (λ b. is_source (role_at (net_of g.B.Block.meaning c.args.graph.now) b)) c.loop-block.block c.loop-block.sources.items c.loop-block.invariant
          c.if-is_source.sources.items _ (ap (λ (v : Vec _ _). v.items) w.sources-is ∙ w.in_ok-push.ensures.items) (sym c.is_source.ensures ∙ w.if-is_source.true)
          (ap (λ p. record { block = record { 0 = c.loop-block.block }; period = p; overlap = c.args.overlap * p }) w.from-period.ensures)
      | else-is_source w ↦ picked_none (source_of c.args.firings.now c.args.overlap) (λ b. is_source (role_at (net_of g.B.Block.meaning c.args.graph.now) b)) c.loop-block.block c.loop-block.sources.items c.loop-block.invariant
          c.if-is_source.sources.items (ap (λ (v : Vec _ _). v.items) w.sources-is) (sym c.is_source.ensures ∙ w.if-is_source.false)
    ]
