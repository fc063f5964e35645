-- A plant as it opens.
use Rattle.std.specs.Prelude.{◌≡◌, ℕ, Bool, length, map, replicate}
use Rattle.stream_model.specs.Meaning.{Meaning}
use Rattle.stream_model.specs.Network.{Network, longest_tape, no_progress, nothing_within, opening_within}
use Rattle.graph_model.specs.Rates.{balance_of, capacities_of}
use Rattle.flowgraph.specs.Flowgraph.{Flowgraph, net_of}
use Rattle.rates.specs.Answer.{AreRates, answer_of, sizes_of}
use Rattle.plant_laws.specs.Opening.{stored_opening}
use Rattle.plant_storage.specs.Stores.{handed_of, stored_in}
use Rattle.plant_storage.specs.SourceTapes.{is_own}
use Rattle.plant_storage.specs.declared.intake.Intake.{Intake}
use Rattle.plant.specs.Plant.{PlantState}
use Rattle.plant.specs.declared.opening.Fresh.{Fresh}

-- of a graph nothing is fed and nothing fired, and a tape may come to hold so many items; the capacities are those of
-- the graph's balance
abbrev pub opening_plant_within : {B : Type 0} → ℕ → (B → Meaning) → Flowgraph B → PlantState B
opening_plant_within longest meaning graph =
    let net = net_of meaning graph in record {
      graph = graph;
      capacities = capacities_of net (balance_of net);
      state = opening_within longest net;
    }

abbrev pub opening_plant : {B : Type 0} → (B → Meaning) → Flowgraph B → PlantState B
opening_plant meaning graph = opening_plant_within longest_tape meaning graph

-- what a plant of the network has beside its graph as it opens, where tapes are alone the plant's or not
pub record IsFresh (net : Network) (longest : ℕ) (alone : Bool) (f : Fresh) : Type 0 where
  pub rates : AreRates net f.rates
  pub capacities : sizes_of f.capacities ≡ capacities_of net (answer_of f.rates)
  pub firings : f.firings ≡ replicate (length net.nodes) no_progress
  pub stored : stored_in f.stores ≡ stored_opening net (sizes_of f.capacities)
  pub handed : map handed_of f.stores.handed.items ≡ map (λ _. nothing_within longest) net.nodes
  pub own : map (λ (h : Intake). is_own h.tape) f.stores.handed.items ≡ map (λ _. alone) net.nodes
  pub places : length f.lent.items ≡ length net.nodes
