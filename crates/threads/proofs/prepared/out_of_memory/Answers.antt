use Rattle.std.proofs.Common.{[], refl}
use Rattle.std.proofs.lemmas.List.Elements.{All-nil}
use Rattle.call_history.specs.History.{Noted, MayAsk}
use Rattle.threads.proofs.Agreeing.{graph_self}
use Rattle.threads.proofs.prepared.out_of_memory.Goals as goal

pub returns-clause-back : goal.returns-clause-back
returns-clause-back g c = record {
  graph = graph_self g.B.PartialEq.eq g.met.B.Eq.laws.refl c.args.plant.graph;
  net = refl;
  capacities = c.recall.ensures.capacities;
  handed = refl;
  idle = c.requires;
}

pub returns-clause-live : goal.returns-clause-live
returns-clause-live g c = (
  [],
  record {
    graph = graph_self g.B.PartialEq.eq g.met.B.Eq.laws.refl c.args.plant.graph;
    net = refl;
    capacities = c.recall.ensures.capacities;
    run = record { replies = refl; left = refl };
    own = All-nil (λ (n : Noted). MayAsk n.caller n.asked);
    idle = c.requires;
  },
)
