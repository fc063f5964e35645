-- What a plant keeps while room is made for the commit of a claim in flight.
use Rattle.std.proofs.Common.{◌≡◌, ℕ, length, sym, ◌∙◌, subst}
use Rattle.std.specs.Prelude.{Vec}
use Rattle.std.specs.Global.{Global}
use Rattle.std.specs.Arc.{arc_value}
use Rattle.stream_model.specs.Meaning.{Meaning}
use Rattle.stream_model.specs.Network.{progress_at}
use Rattle.stream_laws.specs.CanRun.{CanRun}
use Rattle.graph_model.specs.Graphs.{IsValidGraph}
use Rattle.flowgraph.specs.Flowgraph.{Flowgraph, net_of}
use Rattle.claimed_work.specs.declared.lent.Lent.{Lent}
use Rattle.rates.specs.Answer.{sizes_of}
use Rattle.plant_storage.specs.declared.stores.Stores.{Stores}
use Rattle.plant_storage.specs.Stores.{stored_in}
use Rattle.plant_storage.specs.Lending.{CanLend, HasRoom, KeepsAllRoom}
use Rattle.plant.specs.declared.parts.Parts.{Parts}
use Rattle.plant.specs.Plant.{IsFlight, IsRight, IsRightBut, plant_of}
use Rattle.plant.proofs.Claiming.{keeps_from, keeps_roomier}
use Rattle.plant.proofs.Lending.{may_lend}

module _ {B P : Type 0} (meaning : B → Meaning) (p : Parts B P) (b first count : ℕ) (graph : Flowgraph B) (graph_is : graph ≡ arc_value p.graph)
    (valid : IsValidGraph graph.names (net_of meaning graph)) (runs : CanRun (net_of meaning graph)) (right : IsRightBut meaning p b)
    (flight : IsFlight (net_of meaning (arc_value p.graph)) (plant_of p).state b first count) where
  runs_here : CanRun (net_of meaning (arc_value p.graph))
  runs_here = subst (λ (x : Flowgraph B). CanRun (net_of meaning x)) graph_is runs

  -- the claim's firings can be taken from what is stored
  pub may_lend_from : (other : Flowgraph B) → other ≡ arc_value p.graph → (s : Stores) → stored_in s ≡ stored_in p.stores → CanLend (net_of meaning other) (stored_in s) b first count
  may_lend_from other is s same =
      subst (λ (x : Flowgraph B). CanLend (net_of meaning x) (stored_in s) b first count) (sym is)
      (subst (λ x. CanLend (net_of meaning (arc_value p.graph)) x b first count) (sym same)
      (may_lend (arc_value p.graph).names (net_of meaning (arc_value p.graph)) runs_here (subst (λ (x : Flowgraph B). IsValidGraph x.names (net_of meaning x)) graph_is valid) (sizes_of p.capacities)
      p.stores p.firings b right.keeps first count flight))

  module _ (s : Stores) (same : stored_in s ≡ stored_in p.stores) (handed : s.handed ≡ p.stores.handed) (rooms : KeepsAllRoom p.stores s) (lent : Vec Lent Global) (long : length lent.items ≡ length p.lent.items) where
    pub right_but_roomy : IsRightBut meaning (record p { stores = s; lent = lent }) b
    right_but_roomy = record {
      keeps = keeps_roomier (net_of meaning (arc_value p.graph)) (sizes_of p.capacities) runs_here p.stores s p.firings b right.keeps same handed rooms;
      built = record { rates = right.built.rates; capacities = right.built.capacities; places = long ∙ right.built.places };
    }

    -- once its own room is made, all blocks have it
    pub right_roomy : (other : Flowgraph B) → other ≡ arc_value p.graph → HasRoom (net_of meaning other) s b first count → IsRight meaning (record p { stores = s; lent = lent })
    right_roomy other is room =
        let net = net_of meaning (arc_value p.graph) in
        let here : HasRoom net s b first count = subst (λ (x : Flowgraph B). HasRoom (net_of meaning x) s b first count) is room in
        let but = right_but_roomy in
        record {
          keeps = keeps_from net (sizes_of p.capacities) s p.firings b but.keeps
              (λ _. subst (HasRoom net s b (progress_at p.firings b).firings) flight.count_is (subst (λ k. HasRoom net s b k count) flight.first_is here));
          built = but.built;
        }
