use Rattle.std.proofs.Common.{◌∙◌}
use Rattle.stream_model.specs.Firings.{takes}
use Rattle.stream_model.specs.Network.{node_at}
use Rattle.flowgraph.specs.Flowgraph.{net_of}
use Rattle.kinds.specs.Kind.{meaning_of}
use Rattle.rates.proofs.Listed.{more_numbers}
use Rattle.magbelu_c.proofs.block_rates.takes_of.Goals as goal

pub loop-port-preserved : goal.loop-port-preserved
loop-port-preserved c =
    c.in_ok-push.ensures.items
    ∙ more_numbers (takes (node_at (net_of meaning_of c.args.graph.now) c.args.block.0)) c.loop-port.rows.items c.loop-port.port c.takes.result c.loop-port.invariant c.takes.ensures
