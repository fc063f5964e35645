use Rattle.flowgraph.specs.Flowgraph.{net_of}
use Rattle.kinds.specs.Kind.{meaning_of}
use Rattle.slices.specs.Firings.{looks_of}
use Rattle.slices.specs.Kinds.{look_back_of}
use Rattle.magbelu_c.proofs.slice_plans.show_slice.Given as goal

-- the network of the graph, with its rates
abbrev pub ghost-slice_at : goal.ghost-slice_at
ghost-slice_at a = (net_of meaning_of a.graph.now, a.rates.now.firings.items, looks_of look_back_of a.graph.now)
