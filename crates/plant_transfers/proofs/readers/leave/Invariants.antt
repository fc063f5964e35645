use Rattle.std.proofs.Common.{◌≡◌, take}
use Rattle.stream_model.specs.Network.{writers_of}
use Rattle.flowgraph.specs.Flowgraph.{net_of}
use Rattle.plant_laws.specs.Changes.{released_buffers}
use Rattle.plant_transfers.specs.Rows.{HasNoLessRoom}
use Rattle.plant_transfers.proofs.States.{rows, outputs}
use Rattle.plant_transfers.proofs.readers.leave.Given as goal

abbrev pub invariant-loop-input : goal.invariant-loop-input
invariant-loop-input g l =
    let net = net_of g.B.Block.meaning l.graph in
    record {
      buffers : outputs l.buffers ≡ released_buffers net (take l.input-index (writers_of net l.fn.block.0)) (outputs l.initial.buffers);
      room : HasNoLessRoom (rows l.initial.buffers) (rows l.buffers);
    }
