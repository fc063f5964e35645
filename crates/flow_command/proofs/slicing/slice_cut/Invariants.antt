use Rattle.flowgraph.specs.Flowgraph.{net_of}
use Rattle.kinds.specs.Kind.{meaning_of}
use Rattle.slices.specs.Firings.{looks_of}
use Rattle.slices.specs.Kinds.{look_back_of}
use Rattle.flow_command.proofs.slicing.slice_cut.Given as goal

-- the network of the graph, with its rates
abbrev pub ghost-cut_at : goal.ghost-cut_at
ghost-cut_at a = (net_of meaning_of a.graph.now, a.rates.now.firings.items, looks_of look_back_of a.graph.now)
