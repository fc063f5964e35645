use Rattle.std.proofs.Common.{refl}
use Rattle.threads.proofs.Agreeing.{graph_self}
use Rattle.threads.proofs.adaptive.is_itself.Goals as goal

pub returns : goal.returns
returns g c = record {
  graph = graph_self g.B.PartialEq.eq g.met.B.Eq.laws.refl c.args.plant.now.graph;
  net = refl;
  capacities = c.recall.ensures.capacities;
  handed = refl;
  idle = c.requires;
}
