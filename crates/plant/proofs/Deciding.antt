-- What a plant keeps once a claim is decided.
use Rattle.std.proofs.Common.{◌≡◌, ℕ, ◌<◌, List, length, map, false, sym, ap, ◌∙◌, subst}
use Rattle.std.proofs.lemmas.List.{length-map}
use Rattle.std.specs.Prelude.{Vec}
use Rattle.std.specs.Global.{Global}
use Rattle.std.specs.Arc.{arc_value}
use Rattle.stream_model.specs.Meaning.{Meaning}
use Rattle.stream_model.specs.Network.{Network, Handed, Progress, State, node_at}
use Rattle.stream_model.specs.Claims as claims
use Rattle.stream_model.specs.Machine.{Capacities, counts_of, claim_of}
use Rattle.stream_laws.specs.CanRun.{CanRun}
use Rattle.plant_laws.specs.Changes.{with_released}
use Rattle.firing_rules.specs.Decision as firings_decision
use Rattle.firing_rules.specs.State as firings
use Rattle.firing_rules.specs.declared.decision.Decision.{Decision}
use Rattle.firing_rules.specs.declared.decision.Decision.TheVariants as decision
use Rattle.flowgraph.specs.Flowgraph.{Flowgraph, net_of}
use Rattle.rates.specs.Answer.{sizes_of}
use Rattle.plant_storage.specs.declared.intake.Intake as stores
use Rattle.plant_storage.specs.declared.stores.Stores.{Stores}
use Rattle.plant_storage.specs.Stores.{handed_of, state_of, stored_in}
use Rattle.plant_storage.specs.Delivery.{CanRelease}
use Rattle.plant_storage.specs.Lending.{KeepsAllRoom}
use Rattle.plant.specs.declared.parts.Parts.{Parts}
use Rattle.plant.specs.Plant.{IsRight, IsRightBut, plant_of}
use Rattle.plant.specs.Answers.{is_claimed}
use Rattle.plant.proofs.Claiming.{keeps_claimed, keeps_ended, keeps_plain, all_ended, may_release}

-- what a claim of block b decides, and the state after it, with firings' own view of a plant
abbrev pub Decides : Network → Capacities → List Handed → List Progress → ℕ → ℕ → Decision → Type 0
Decides net caps hs ps b max d = let counts = counts_of net caps (firings.state_of hs ps) b in d ≡ firings_decision.answer_of counts.firings (claims.decide (node_at net b) counts max)

abbrev pub Moves : Network → Capacities → List Handed → List Progress → ℕ → ℕ → List Progress → Type 0
Moves net caps hs ps b max after = (claim_of net caps (firings.state_of hs ps) b max).1 ≡ firings.state_of hs after

module _ {B P : Type 0} (meaning : B → Meaning) (p : Parts B P) (b max : ℕ) (right : IsRight meaning p) (inside : b < length (arc_value p.graph).blocks) (graph : Flowgraph B) (graph_is : graph ≡ arc_value p.graph)
    (runs : CanRun (net_of meaning graph)) (lent : Flowgraph B) (lent_is : lent ≡ arc_value p.graph) (caps : Capacities) (caps_are : caps ≡ sizes_of p.capacities) (fed : List stores.Intake) (fed_is : fed ≡ p.stores.handed.items)
    (result : Decision) (decides : (hs : List Handed) → firings.HasTapes (map firings.tape_of (map handed_of fed)) hs → Decides (net_of meaning lent) caps hs p.firings b max result)
    (after : List Progress) (moves : (hs : List Handed) → firings.HasTapes (map firings.tape_of (map handed_of fed)) hs → Moves (net_of meaning lent) caps hs p.firings b max after) where
  abbrev net : Network
  net = net_of meaning (arc_value p.graph)

  abbrev handed : List Handed
  handed = map handed_of p.stores.handed.items

  has : firings.HasTapes (map firings.tape_of (map handed_of fed)) (handed)
  has = ap (λ hs. map firings.tape_of (map handed_of hs)) (sym fed_is)

  runs_here : CanRun net
  runs_here = subst (λ (x : Flowgraph B). CanRun (net_of meaning x)) graph_is runs

  inside_here : b < length (net).nodes
  inside_here = rw length-map inside

  pub decided : Decides (net) (sizes_of p.capacities) (handed) p.firings b max result
  decided =
      subst (λ c. Decides (net) c (handed) p.firings b max result) caps_are
      (subst (λ (x : Flowgraph B). Decides (net_of meaning x) caps (handed) p.firings b max result) lent_is (decides (handed) has))

  pub moved : Moves (net) (sizes_of p.capacities) (handed) p.firings b max after
  moved =
      subst (λ c. Moves (net) c (handed) p.firings b max after) caps_are
      (subst (λ (x : Flowgraph B). Moves (net_of meaning x) caps (handed) p.firings b max after) lent_is (moves (handed) has))

  -- the plant then
  pub plant_claimed : plant_of (record p { firings = after }) ≡ record (plant_of p) { state = (claim_of (net) (sizes_of p.capacities) (plant_of p).state b max).1 }
  plant_claimed = ap (λ (st : State). record (plant_of p) { state = st }) (sym moved)

  pub right_claimed : (result ≡ decision.Ended → ⊥) → IsRightBut meaning (record p { firings = after }) b
  right_claimed ne = record {
    keeps = keeps_claimed (net) (sizes_of p.capacities) runs_here p.stores p.firings right.keeps b max inside_here after (λ e. ne (decided ∙ e)) moved;
    built = record { rates = right.built.rates; capacities = right.built.capacities; places = right.built.places };
  }

  -- where nothing was claimed, all blocks have their room
  pub right_plain : (result ≡ decision.Ended → ⊥) → is_claimed result ≡ false → IsRight meaning (record p { firings = after })
  right_plain ne plain = record {
    keeps = keeps_plain (net) (sizes_of p.capacities) runs_here p.stores p.firings right.keeps b max inside_here after moved (ap is_claimed (sym decided) ∙ plain) (λ e. ne (decided ∙ e));
    built = record { rates = right.built.rates; capacities = right.built.capacities; places = right.built.places };
  }

  module _ (ended : result ≡ decision.Ended) where
    pub release_from : (other : Flowgraph B) → other ≡ arc_value p.graph → CanRelease (net_of meaning other) (stored_in p.stores) b
    release_from other is =
        subst (λ (x : Flowgraph B). CanRelease (net_of meaning x) (stored_in p.stores) b) (sym is)
        (may_release (net) (sizes_of p.capacities) runs_here p.stores p.firings right.keeps b max inside_here (sym decided ∙ ended))

    pub right_ended : (other : Flowgraph B) → other ≡ arc_value p.graph → (s : Stores) → s.handed ≡ p.stores.handed → stored_in s ≡ with_released (net_of meaning other) (stored_in p.stores) b → KeepsAllRoom p.stores s →
        IsRightBut meaning (record p { firings = after; stores = s }) b
    right_ended other is s same stored rooms = record {
      keeps = keeps_ended (net) (sizes_of p.capacities) runs_here p.stores p.firings right.keeps b max inside_here (sym decided ∙ ended) s after same
          (subst (λ (x : Flowgraph B). stored_in s ≡ with_released (net_of meaning x) (stored_in p.stores) b) is stored) rooms
          (moved ∙ ap (λ (h : Vec stores.Intake Global). state_of h.items after) (sym same));
      built = record { rates = right.built.rates; capacities = right.built.capacities; places = right.built.places };
    }

    pub right_all : (other : Flowgraph B) → other ≡ arc_value p.graph → (s : Stores) → s.handed ≡ p.stores.handed → stored_in s ≡ with_released (net_of meaning other) (stored_in p.stores) b → KeepsAllRoom p.stores s →
        IsRight meaning (record p { firings = after; stores = s })
    right_all other is s same stored rooms =
        let but = right_ended other is s same stored rooms in
        record {
          keeps = all_ended (net) (sizes_of p.capacities) runs_here p.stores p.firings right.keeps b max inside_here (sym decided ∙ ended) s after
              (moved ∙ ap (λ (h : Vec stores.Intake Global). state_of h.items after) (sym same)) but.keeps;
          built = but.built;
        }
