use Rattle.std.proofs.Common.{get_or, le_trans}
use Rattle.flowgraph.specs.Flowgraph.{net_of}
use Rattle.plant_transfers.proofs.States.{outputs}
use Rattle.plant_transfers.proofs.Wires.{no_input, LeavesInTurn, leaves_in_turn}
use Rattle.plant_transfers.proofs.readers.leave.Given.{Over}
use Rattle.plant_transfers.proofs.readers.leave.Goals.{In-loop-input}
use Rattle.plant_transfers.proofs.readers.leave.Goals as goal

step : (g : Over) (c : In-loop-input g) →
    LeavesInTurn (net_of g.B.Block.meaning c.args.graph.now) c.args.block.0 c.loop-input.input-index (get_or c.inputs-input-items.result.now c.loop-input.input-index no_input) (outputs c.args.buffers.now) (outputs c.loop-input.buffers)
step g c =
    leaves_in_turn (net_of g.B.Block.meaning c.args.graph.now) c.recall.ensures.runs c.args.block.0 c.inputs-input-items.result.now c.inputs-input-items.ensures.writers c.inputs-input-items.ensures.readers
    c.loop-input.input-index c.loop-input-test.true (outputs c.args.buffers.now) (outputs c.loop-input.buffers) c.requires c.loop-input.invariant.buffers

pub release-requires : goal.release-requires
release-requires g c = (step g (goal.at.release-requires g c).In-loop-input).live

pub loop-input-preserved : goal.loop-input-preserved
loop-input-preserved g c = record {
  buffers = (step g (goal.at.loop-input-preserved g c).In-loop-input).more (outputs c.release.new.buffers) c.release.ensures.outputs;
  room = λ a p. le_trans (c.loop-input.invariant.room a p) (c.release.ensures.room a p);
}
