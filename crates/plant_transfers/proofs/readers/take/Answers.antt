use Rattle.std.proofs.Common.{get_or, le_trans}
use Rattle.flowgraph.specs.Flowgraph.{net_of}
use Rattle.plant_transfers.proofs.States.{outputs}
use Rattle.plant_transfers.proofs.Wires.{no_input, TakesInTurn, takes_in_turn}
use Rattle.plant_transfers.proofs.readers.take.Given.{Over}
use Rattle.plant_transfers.proofs.readers.take.Goals.{After-taken}
use Rattle.plant_transfers.proofs.readers.take.Goals as goal

step : (g : Over) (c : After-taken g) →
    TakesInTurn (net_of g.B.Block.meaning c.args.graph.now) c.args.firings.block.0 c.args.firings.first c.args.firings.next c.loop-port.port c.taken.result
    (get_or c.inputs-input-items.result.now c.loop-port.port no_input) (outputs c.args.buffers.now) (outputs c.loop-port.buffers)
step g c =
    takes_in_turn (net_of g.B.Block.meaning c.args.graph.now) c.recall.ensures.runs c.args.firings.block.0 c.inputs-input-items.result.now c.inputs-input-items.ensures.writers c.inputs-input-items.ensures.readers
    c.loop-port.port c.loop-port-test.true (outputs c.args.buffers.now) (outputs c.loop-port.buffers) c.args.firings.first c.args.firings.next c.taken.result c.requires c.taken.ensures.value c.loop-port.invariant.buffers

pub advance-requires-clause-live : goal.advance-requires-clause-live
advance-requires-clause-live g c = (step g (goal.at.advance-requires-clause-live g c).After-taken).live

pub advance-requires-clause-unread : goal.advance-requires-clause-unread
advance-requires-clause-unread g c = (step g (goal.at.advance-requires-clause-unread g c).After-taken).unread

pub loop-port-preserved : goal.loop-port-preserved
loop-port-preserved g c = record {
  buffers = (step g (goal.at.loop-port-preserved g c).After-taken).more (outputs c.advance.new.buffers) c.advance.ensures.outputs;
  room = λ a p. le_trans (c.loop-port.invariant.room a p) (c.advance.ensures.room a p);
}
