-- What a plant lends to a claim in flight of one of its blocks makes the claim's job.
use Rattle.std.proofs.Common.{◌≡◌, ℕ, ◌*◌, List, length, get_or, arith, sym, ap, ◌∙◌, subst}
use Rattle.std.proofs.lemmas.List.{get_or_default}
use Rattle.std.specs.Arc.{arc_value}
use Rattle.stream_model.specs.Meaning.{Meaning}
use Rattle.stream_model.specs.Network.{node_at}
use Rattle.stream_laws.specs.CanRun.{CanRun}
use Rattle.graph_model.specs.Graphs.{IsValidGraph}
use Rattle.machine_laws.specs.Stays.{in_flight}
use Rattle.plant_laws.specs.Stored.{word_at}
use Rattle.items.specs.declared.stream_items.Items.{Items}
use Rattle.settings.specs.declared.value.Held.{Held}
use Rattle.block_trait.specs.Work.{CanWork}
use Rattle.flowgraph.specs.Flowgraph.{Flowgraph, net_of}
use Rattle.claimed_work.specs.Jobs.{job_of}
use Rattle.rates.specs.Answer.{sizes_of}
use Rattle.plant_storage.specs.Stores.{stored_in}
use Rattle.plant_storage.specs.Lending.{IsLent}
use Rattle.plant.specs.declared.parts.Parts.{Parts}
use Rattle.plant.specs.Plant.{PlantState, IsFlight, IsRightBut, plant_of}
use Rattle.plant.proofs.Lending.{may_work, job_lent}

module _ {B P : Type 0} (meaning : B → Meaning) (old new : Parts B P) (b first count : ℕ) (graph : Flowgraph B) (graph_is : graph ≡ arc_value old.graph)
    (valid : IsValidGraph graph.names (net_of meaning graph)) (runs : CanRun (net_of meaning graph)) (same : plant_of new ≡ plant_of old) (right : IsRightBut meaning new b)
    (flight : IsFlight (net_of meaning (arc_value old.graph)) (plant_of old).state b first count) (windows : List Items) (held : List Held) (places : List Items)
    (lent : IsLent (net_of meaning (arc_value old.graph)) (stored_in new.stores) b first count windows held places) (word : ℕ) (word_here : word ≡ get_or new.stores.words.items b word) where
  there : arc_value old.graph ≡ arc_value new.graph
  there = ap (λ (p : PlantState B). p.graph) (sym same)

  valid_new : IsValidGraph (arc_value new.graph).names (net_of meaning (arc_value new.graph))
  valid_new = subst (λ (x : Flowgraph B). IsValidGraph x.names (net_of meaning x)) (graph_is ∙ there) valid

  runs_new : CanRun (net_of meaning (arc_value new.graph))
  runs_new = subst (λ (x : Flowgraph B). CanRun (net_of meaning x)) (graph_is ∙ there) runs

  flight_new : IsFlight (net_of meaning (arc_value new.graph)) (plant_of new).state b first count
  flight_new = subst (λ (p : PlantState B). IsFlight (net_of meaning p.graph) p.state b first count) (sym same) flight

  lent_new : IsLent (net_of meaning (arc_value new.graph)) (stored_in new.stores) b first count windows held places
  lent_new = subst (λ (x : Flowgraph B). IsLent (net_of meaning x) (stored_in new.stores) b first count windows held places) there lent

  word_is : word ≡ word_at (stored_in new.stores) b
  word_is = word_here ∙ get_or_default new.stores.words.items b word 0 (let long = right.keeps.stored.places.words in let inside = flight_new.inside in omega arith)

  -- its block may do it
  pub may_do : (other : Flowgraph B) → other ≡ arc_value old.graph → let n = node_at (net_of meaning other) b in CanWork n.meaning (n.multiple * first) (n.multiple * count) word windows held places
  may_do other is =
      subst (λ (x : Flowgraph B). let n = node_at (net_of meaning x) b in CanWork n.meaning (n.multiple * first) (n.multiple * count) word windows held places) (sym (is ∙ there))
      (subst (λ w. let n = node_at (net_of meaning (arc_value new.graph)) b in CanWork n.meaning (n.multiple * first) (n.multiple * count) w windows held places) (sym word_is)
      (may_work (arc_value new.graph).names (net_of meaning (arc_value new.graph)) runs_new valid_new (sizes_of new.capacities) new.stores new.firings b right.keeps first count flight_new
      windows held places lent_new))

  -- and it is the one that the machine says
  pub its_job : job_of (length places) b first count windows held word ≡ in_flight (net_of meaning (arc_value old.graph)) (plant_of old).state b
  its_job =
      ap (job_of (length places) b first count windows held) word_is
      ∙ job_lent (arc_value new.graph).names (net_of meaning (arc_value new.graph)) runs_new valid_new (sizes_of new.capacities) new.stores new.firings b right.keeps first count flight_new
      windows held places lent_new
      ∙ ap (λ (p : PlantState B). in_flight (net_of meaning p.graph) p.state b) same
