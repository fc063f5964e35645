use Rattle.std.proofs.Common.{vec_capacity, ◌∙◌, arith}
use Rattle.flowgraph.specs.Flowgraph.{net_of}
use Rattle.plant_transfers.proofs.States.{rows}
use Rattle.plant_transfers.proofs.Giving as giving
use Rattle.plant_transfers.proofs.outputs.give_all.Goals as goal

pub give-requires-clause-reads : goal.give-requires-clause-reads
give-requires-clause-reads g c =
    giving.reads_now (net_of g.B.Block.meaning c.args.graph.now) c.recall.ensures.runs c.args.handed.now (rows c.args.buffers.now) (vec_capacity c.args.list.now) c.args.firings.block.0 c.args.firings.first c.args.firings.next c.args.outputs.now c.requires
    (rows c.loop-port.buffers) c.loop-port.port c.loop-port.invariant.given c.loop-port.invariant.rest

pub give-requires-clause-gives : goal.give-requires-clause-gives
give-requires-clause-gives g c =
    giving.gives_now (net_of g.B.Block.meaning c.args.graph.now) c.recall.ensures.runs c.args.handed.now (rows c.args.buffers.now) (vec_capacity c.args.list.now) c.args.firings.block.0 c.args.firings.first c.args.firings.next c.args.outputs.now c.requires
    (rows c.loop-port.buffers) c.loop-port.port c.loop-port.invariant.given c.loop-port.invariant.rest
    c.index-outputs-port.result c.index-outputs-port.is c.loop-port-test.true (vec_capacity c.loop-port.list) c.loop-port.invariant.capacity

pub loop-port-preserved : goal.loop-port-preserved
loop-port-preserved g c =
    let net = net_of g.B.Block.meaning c.args.graph.now in
    record {
      given = giving.given_more net c.recall.ensures.runs c.args.handed.now (rows c.args.buffers.now) (vec_capacity c.args.list.now) c.args.firings.block.0 c.args.firings.first c.args.firings.next c.args.outputs.now c.requires
          (rows c.loop-port.buffers) c.loop-port.port c.loop-port.invariant.given c.loop-port.invariant.rest
          c.index-outputs-port.result c.index-outputs-port.is c.loop-port-test.true (rows c.give.new.buffers) c.give.ensures.outputs;
      rest = giving.rest_more net c.recall.ensures.runs c.args.handed.now (rows c.args.buffers.now) (vec_capacity c.args.list.now) c.args.firings.block.0 c.args.firings.first c.args.firings.next c.args.outputs.now c.requires
          (rows c.loop-port.buffers) c.loop-port.port c.loop-port.invariant.given c.loop-port.invariant.rest
          c.index-outputs-port.result c.index-outputs-port.is c.loop-port-test.true (rows c.give.new.buffers) c.give.ensures.others;
      capacity = c.give.ensures.capacity ∙ c.loop-port.invariant.capacity;
    }

pub returns-clause-outputs : goal.returns-clause-outputs
returns-clause-outputs g c =
    giving.given_all (net_of g.B.Block.meaning c.args.graph.now) c.recall.ensures.runs c.args.handed.now (rows c.args.buffers.now) (vec_capacity c.args.list.now) c.args.firings.block.0 c.args.firings.first c.args.firings.next c.args.outputs.now c.requires
    (rows c.loop-port.buffers) c.loop-port.port c.loop-port.invariant.given c.loop-port.invariant.rest (omega (arith, c.loop-port-test.false)) (omega (arith, c.loop-port.auto.port-end))
