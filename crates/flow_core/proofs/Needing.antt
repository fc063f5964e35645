-- What a block of the graph waits for.
use Rattle.std.proofs.Common.{◌≡◌, ◌<◌, ℕ, length, ap, sym, ◌∙◌, subst, arith}
use Rattle.std.specs.Prelude.{Ok}
use Rattle.std.proofs.lemmas.Bool.Decides.{nat_tests}
use Rattle.std.proofs.lemmas.List.{length-map}
use Rattle.stream_model.specs.Meaning.{Meaning}
use Rattle.stream_model.specs.Network.{Network, State}
use Rattle.stream_model.specs.Machine.{Capacities}
use Rattle.stream_laws.specs.CanRun.{CanRun}
use Rattle.machine_laws.specs.Waits.{waited_for, wait_of}
use Rattle.machine_laws.proofs.Waiting.{next_inside}
use Rattle.firing_rules.specs.declared.waits.BlockNeed.{BlockNeed}
use Rattle.flowgraph.specs.Flowgraph.{net_of, node_of}
use Rattle.plant.specs.Plant.{PlantState}
use Rattle.plant.specs.Waits.{need_of, wait_in}
use Rattle.flow_core.specs.Session.{wait_told}

-- of a block that there is no call is refused
told_is : (net : Network) (caps : Capacities) (st : State) (b : ℕ) → b < length net.nodes → need_of net caps st b ≡ Ok (wait_of net caps st b)
told_is net caps st b h = grind (arith, nat_tests)

module _ {B : Type 0} (meaning : B → Meaning) (plant : PlantState B) (can : CanRun (net_of meaning plant.graph)) (b : ℕ) (inside : b < length plant.graph.blocks) (need : BlockNeed)
    (is : wait_in (Ok need) ≡ need_of (net_of meaning plant.graph) plant.capacities plant.state b) where
  abbrev net : Network
  net = net_of meaning plant.graph

  many : length net.nodes ≡ length plant.graph.blocks
  many = length-map plant.graph.blocks (node_of meaning)

  there : b < length net.nodes
  there = subst (λ n. b < n) (sym many) inside

  pub need_value : wait_told (wait_in (Ok need)) ≡ wait_of net plant.capacities plant.state b
  need_value = ap wait_told (is ∙ told_is net plant.capacities plant.state b there)

  -- and a block that it waits for is one of the graph
  pub need_inside : waited_for b (wait_told (wait_in (Ok need))) < length plant.graph.blocks
  need_inside =
      subst (λ n. waited_for b (wait_told (wait_in (Ok need))) < n) many
      (subst (λ n. n < length net.nodes) (ap (waited_for b) (sym need_value)) (next_inside net plant.capacities plant.state can b there))
