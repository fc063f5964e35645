use Rattle.flowgraph.specs.Flowgraph.{net_of}
use Rattle.kinds.specs.Kind.{meaning_of}
use Rattle.flow_core.proofs.HeldPieces.{piece_is}
use Rattle.flow_core.proofs.raw_output.next_piece.Goals as goal

pub returns-in-Ok : goal.returns-in-Ok
returns-in-Ok c = piece_is (net_of meaning_of c.args.plant.now.graph) c.args.plant.now.state c.args.sink.0 c.args.from 65536 c.in-Ok.piece c.in-Ok.ensures.answered c.in-Ok.ensures.typed
