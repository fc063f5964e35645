use Rattle.std.proofs.Common.{◌≡◌, true, []}
use Rattle.stream_model.specs.Machine.{is_idle}
use Rattle.items.specs.Items.{type_of, numbers_of}
use Rattle.flowgraph.specs.Flowgraph.{net_of}
use Rattle.kinds.specs.Kind.{meaning_of}
use Rattle.plant.specs.Feeding.{given_type}
use Rattle.flow_core.specs.Session.{in_state}
use Rattle.flow_core.proofs.FedBytes.{Feeding}
use Rattle.flow_core.proofs.raw_input.feed_from.Given as goal

abbrev pub invariant-loop-pieces : goal.invariant-loop-pieces
invariant-loop-pieces g l = record {
  failed : g.I.ByteIn.failed l.input ≡ g.I.ByteIn.failed l.fn.input;
  same : l.plant ≡ in_state l.fn.plant l.plant.state;
  idle : is_idle l.fn.plant.state ≡ true → is_idle l.plant.state ≡ true;
  feeding : Feeding (net_of meaning_of l.fn.plant.graph) l.fn.plant.state l.plant.state l.source.0 l.fn.order (g.I.ByteIn.remaining l.fn.input) (g.I.ByteIn.remaining l.input) l.decoder;
  typed : type_of l.items ≡ given_type (net_of meaning_of l.fn.plant.graph) l.source.0;
  none : numbers_of l.items ≡ [];
}
