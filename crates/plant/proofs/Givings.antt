-- What a plant keeps once the claim of a block is given up.
use Rattle.std.proofs.Common.{◌≡◌, ℕ, ◌<◌, List, sym, ap, ◌∙◌, subst}
use Rattle.std.specs.Arc.{arc_value}
use Rattle.stream_model.specs.Meaning.{Meaning}
use Rattle.stream_model.specs.Network.{Progress}
use Rattle.stream_laws.specs.CanRun.{CanRun}
use Rattle.flowgraph.specs.Flowgraph.{Flowgraph, net_of}
use Rattle.firing_rules.specs.Firings.{abandoned}
use Rattle.rates.specs.Answer.{sizes_of}
use Rattle.plant.specs.declared.parts.Parts.{Parts}
use Rattle.plant.specs.Plant.{PlantState, Keeps, IsFlight, IsRight, IsRightBut, plant_of}
use Rattle.plant.proofs.GivingBack.{keeps_abandoned}

pub right_given_up : {B P : Type 0} (meaning : B → Meaning) (old new : Parts B P) (b first count : ℕ) (graph : Flowgraph B) → graph ≡ arc_value old.graph → CanRun (net_of meaning graph) →
    plant_of new ≡ plant_of old → IsRightBut meaning new b → IsFlight (net_of meaning (arc_value old.graph)) (plant_of old).state b first count →
    (progress : List Progress) → progress ≡ abandoned new.firings b → IsRight meaning (record new { firings = progress })
right_given_up {B} meaning old new b first count graph graph_is runs same right flight progress is =
    let there : arc_value old.graph ≡ arc_value new.graph = ap (λ (p : PlantState B). p.graph) (sym same) in
    let runs' = subst (λ (x : Flowgraph B). CanRun (net_of meaning x)) (graph_is ∙ there) runs in
    let flight' = subst (λ (p : PlantState B). IsFlight (net_of meaning p.graph) p.state b first count) (sym same) flight in
    record {
      keeps = subst (Keeps (net_of meaning (arc_value new.graph)) (sizes_of new.capacities) new.stores) (sym is)
          (keeps_abandoned (net_of meaning (arc_value new.graph)) (sizes_of new.capacities) runs' new.stores new.firings b right.keeps flight'.inside (subst (λ k. 0 < k) flight'.count_is flight'.some));
      built = record { rates = right.built.rates; capacities = right.built.capacities; places = right.built.places };
    }
