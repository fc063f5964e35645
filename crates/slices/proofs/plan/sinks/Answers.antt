use Rattle.std.proofs.Common.{◌+◌, ◌*◌, sym, ap, ap₂, ◌∙◌, Vec, get_or}
use Rattle.stream_model.specs.Network.{role_at, is_keeper}
use Rattle.flowgraph.specs.Flowgraph.{net_of}
use Rattle.slices.specs.Plans.{sink_at}
use Rattle.slices.proofs.Planning.{picked_one, picked_none}
use Rattle.slices.proofs.plan.sinks.Goals as goal
use Rattle.slices.proofs.plan.sinks.Goals.{then-is_keeper+in_ok-push, else-is_keeper}

pub loop-block-preserved : goal.loop-block-preserved
loop-block-preserved g c =
    elim c.if-is_keeper.branch [
      | then-is_keeper+in_ok-push w ↦ picked_one (sink_at (net_of g.B.Block.meaning c.args.graph.now) c.args.firings.now c.args.first.now c.args.tagged.now c.args.there.now c.args.more) (λ b. is_keeper (role_at (net_of g.B.Block.meaning c.args.graph.now) b)) c.loop-block.block c.loop-block.sinks.items c.loop-block.invariant
          c.if-is_keeper.sinks.items _ (ap (λ (v : Vec _ _). v.items) w.sinks-is ∙ w.in_ok-push.ensures.items) (sym c.is_keeper.ensures ∙ w.if-is_keeper.true)
          (ap₂ (λ p s. record { block = record { 0 = c.loop-block.block }; period = p; settled = s; drop = get_or c.args.there.now c.loop-block.block 0 + c.args.more * p }) w.from-period.ensures w.right_at.ensures)
      | else-is_keeper w ↦ picked_none (sink_at (net_of g.B.Block.meaning c.args.graph.now) c.args.firings.now c.args.first.now c.args.tagged.now c.args.there.now c.args.more) (λ b. is_keeper (role_at (net_of g.B.Block.meaning c.args.graph.now) b)) c.loop-block.block c.loop-block.sinks.items c.loop-block.invariant
          c.if-is_keeper.sinks.items (ap (λ (v : Vec _ _). v.items) w.sinks-is) (sym c.is_keeper.ensures ∙ w.if-is_keeper.false)
    ]
