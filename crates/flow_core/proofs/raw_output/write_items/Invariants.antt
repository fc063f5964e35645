use Rattle.std.proofs.Common.{◌≡◌, ◌-◌}
use Rattle.stream_model.specs.Meaning.{input}
use Rattle.stream_model.specs.Network.{entering}
use Rattle.flowgraph.specs.Flowgraph.{net_of}
use Rattle.kinds.specs.Kind.{meaning_of}
use Rattle.raw_items.specs.Values.{bytes_of}
use Rattle.flow_core.specs.RawEnds.{held_count, held_type}
use Rattle.flow_core.proofs.HeldPieces.{Written}
use Rattle.flow_core.proofs.raw_output.write_items.Given as goal

abbrev pub invariant-loop-bytes : goal.invariant-loop-bytes
invariant-loop-bytes g l =
    let net = net_of meaning_of l.plant.graph in
    record {
      failed : g.O.ByteOut.failed l.output ≡ g.O.ByteOut.failed l.fn.output;
      written : Written (bytes_of (held_type net l.sink.0) l.fn.order) (input (entering net l.plant.state.handed l.sink.0) 0) (held_count l.plant.state l.sink.0) (g.O.ByteOut.contents l.fn.output) l.from (g.O.ByteOut.contents l.output);
    }

abbrev pub decreases-loop-bytes : goal.decreases-loop-bytes
decreases-loop-bytes g l = held_count l.plant.state l.sink.0 - l.from
