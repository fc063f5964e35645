use Rattle.std.proofs.Common.{◌<◌, [], length, map, arith, ◌∙◌}
use Rattle.stream_model.specs.Network.{node_at}
use Rattle.items.specs.Tags.{tag_of}
use Rattle.flowgraph.specs.Flowgraph.{net_of}
use Rattle.plant_laws.specs.Changes.{tags_waiting}
use Rattle.plant_transfers.specs.Steps.{stored_with}
use Rattle.plant_transfers.proofs.States.{rows}
use Rattle.plant_transfers.proofs.Wires.{waiting_long}
use Rattle.plant_transfers.proofs.Bringing as bringing
use Rattle.plant_transfers.proofs.brought.bring_all.Goals as goal

pub loop-port-preserved : goal.loop-port-preserved
loop-port-preserved g c =
    let net = net_of g.B.Block.meaning c.args.graph.now in
    let b = c.args.firings.block.0 in
    let n = node_at net b in
    let waiting = tags_waiting net (stored_with [] (rows c.args.buffers.now)) b in
    let many = waiting_long net b c.inputs-port-end.result.now c.inputs-port-end.ensures.writers (stored_with [] (rows c.args.buffers.now)) in
    let in' : c.loop-port.port < length (tags_waiting net (stored_with [] (rows c.args.buffers.now)) b) = omega (arith, many, c.loop-port-test.true) in
    record {
      left = bringing.left_more n c.args.firings.first c.args.firings.next waiting c.loop-port.port (map tag_of c.loop-port.list.items) (map tag_of c.bring_from.new.list.items)
          (bringing.all_from n c.args.firings.first c.args.firings.next 0 waiting) in' c.bring_from.ensures.tags c.loop-port.invariant.left;
      capacity = c.bring_from.ensures.capacity ∙ c.loop-port.invariant.capacity;
    }
