-- Where a history of calls leads.
use Rattle.std.specs.Prelude.{◌≡◌, List, Bool, true}
use Rattle.stream_model.specs.Meaning.{Meaning}
use Rattle.stream_model.specs.Machine.{is_idle}
use Rattle.graph_model.specs.Rates.{balance_of, capacities_of}
use Rattle.flowgraph.specs.Agreeing.{graphs_agree}
use Rattle.flowgraph.specs.Flowgraph.{net_of}
use Rattle.plant.specs.Handed.{OpeningState}
use Rattle.plant.specs.Plant.{PlantState}
use Rattle.call_history.specs.History.{Noted, AreOwn, IsRunOf}

-- where a plant stands before the run
abbrev pub opening_of : {B : Type 0} → PlantState B → OpeningState B
opening_of p = record { graph = p.graph; state = p.state }

-- a plant came where a history leads from the opening: an equal graph, buffers as large as its rates ask, and no claim
-- in flight. Each call of the history is one that its caller may make
pub record HasReached {B : Type 0} (meaning : B → Meaning) (eq : B → B → Bool) (o : OpeningState B)
    (history : List Noted) (p : PlantState B) : Type 0 where
  pub graph : graphs_agree eq p.graph o.graph ≡ true
  pub net : net_of meaning p.graph ≡ net_of meaning o.graph
  pub capacities : p.capacities ≡ capacities_of (net_of meaning p.graph) (balance_of (net_of meaning p.graph))
  pub run : IsRunOf (net_of meaning p.graph) p.capacities o.state history p.state
  pub own : AreOwn history
  pub idle : is_idle p.state ≡ true
