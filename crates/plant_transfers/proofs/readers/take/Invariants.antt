use Rattle.std.proofs.Common.{◌≡◌, take}
use Rattle.stream_model.specs.Network.{writers_of}
use Rattle.flowgraph.specs.Flowgraph.{net_of}
use Rattle.plant_laws.specs.Changes.{taken_buffers}
use Rattle.plant_transfers.specs.Rows.{HasNoLessRoom}
use Rattle.plant_transfers.proofs.States.{rows, outputs}
use Rattle.plant_transfers.proofs.readers.take.Given as goal

abbrev pub invariant-loop-port : goal.invariant-loop-port
invariant-loop-port g l =
    let net = net_of g.B.Block.meaning l.graph in
    record {
      buffers : outputs l.buffers ≡ taken_buffers net l.firings.block.0 l.firings.first l.firings.next (take l.port (writers_of net l.firings.block.0)) (outputs l.initial.buffers);
      room : HasNoLessRoom (rows l.initial.buffers) (rows l.buffers);
    }
