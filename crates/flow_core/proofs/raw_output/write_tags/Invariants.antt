use Rattle.std.proofs.Common.{◌≡◌, ◌-◌}
use Rattle.stream_model.specs.Network.{tags_entering}
use Rattle.flowgraph.specs.Flowgraph.{net_of}
use Rattle.kinds.specs.Kind.{meaning_of}
use Rattle.flow_core.specs.RawEnds.{held_count, tag_line}
use Rattle.flow_core.proofs.HeldTags.{WrittenTags}
use Rattle.flow_core.proofs.raw_output.write_tags.Given as goal

abbrev pub invariant-loop-piece : goal.invariant-loop-piece
invariant-loop-piece g l =
    let net = net_of meaning_of l.plant.graph in
    record {
      failed : g.O.ByteOut.failed l.output ≡ g.O.ByteOut.failed l.fn.output;
      written : WrittenTags tag_line (tags_entering net l.plant.state.handed l.sink.0 0) (held_count l.plant.state l.sink.0) (g.O.ByteOut.contents l.fn.output) l.from (g.O.ByteOut.contents l.output);
    }

abbrev pub decreases-loop-piece : goal.decreases-loop-piece
decreases-loop-piece g l = held_count l.plant.state l.sink.0 - l.from
