-- A block may work on what a claim in flight is lent, and makes the work of the claim of it.
use Rattle.std.proofs.Common.{◌≡◌, ℕ, ℤ, ◌<◌, ◌≤◌, ◌*◌, ◌+◌, ◌^◌, List, get_or, arith, ◌∙◌, subst, mul-le-mul_left}
use Rattle.std.proofs.lemmas.List.{get_or_default}
use Rattle.std.specs.Arc.{arc_value}
use Rattle.stream_model.specs.Meaning.{Meaning}
use Rattle.stream_model.specs.Settings as model
use Rattle.stream_model.specs.Network.{Network, Node, node_at}
use Rattle.stream_laws.specs.CanRun.{CanRun}
use Rattle.graph_model.specs.Graphs.{IsValidGraph}
use Rattle.plant_laws.specs.Stored.{word_at}
use Rattle.items.specs.declared.stream_items.Items.{Items}
use Rattle.settings.specs.declared.value.Held.{Held}
use Rattle.block_trait.specs.Work.{CanWork, HasWorked, IsWorkOf}
use Rattle.flowgraph.specs.Flowgraph.{Flowgraph, net_of}
use Rattle.rates.specs.Answer.{sizes_of}
use Rattle.plant_storage.specs.Stores.{stored_in}
use Rattle.plant_storage.specs.Lending.{IsLent}
use Rattle.plant.specs.declared.parts.Parts.{Parts}
use Rattle.plant.specs.Plant.{KeepsBut, IsFlight, IsItsWork, IsRight, plant_of}
use Rattle.plant.proofs.Claiming.{but_from}
use Rattle.plant.proofs.Lending.{may_lend, may_work, is_its_work}

module _ {B P : Type 0} (meaning : B → Meaning) (p : Parts B P) (b first count : ℕ) (graph : Flowgraph B) (graph_is : graph ≡ arc_value p.graph)
    (valid : IsValidGraph graph.names (net_of meaning graph)) (runs : CanRun (net_of meaning graph)) (right : IsRight meaning p)
    (flight : IsFlight (net_of meaning (arc_value p.graph)) (plant_of p).state b first count) where
  abbrev net : Network
  net = net_of meaning (arc_value p.graph)

  abbrev n : Node
  n = node_at net b

  runs_here : CanRun net
  runs_here = subst (λ (x : Flowgraph B). CanRun (net_of meaning x)) graph_is runs

  valid_here : IsValidGraph (arc_value p.graph).names net
  valid_here = subst (λ (x : Flowgraph B). IsValidGraph x.names (net_of meaning x)) graph_is valid

  but : KeepsBut (net) (sizes_of p.capacities) p.stores p.firings b
  but = but_from (net) (sizes_of p.capacities) p.stores p.firings b right.keeps

  -- the numbers of its base firings fit a word
  pub firings_fit : (k : ℕ) → k ≡ (n).multiple → k * first < 2 ^ 62
  firings_fit k is =
      let small = (may_lend (arc_value p.graph).names (net) runs_here valid_here (sizes_of p.capacities) p.stores p.firings b but first count flight).words.firings in
      let before : first ≤ first + count = omega arith in
      let less = mul-le-mul_left (n).multiple before in
      rw is (omega (arith, less, small))

  module _ (windows : List Items) (held : List Held) (places : List Items) (lent : IsLent (net) (stored_in p.stores) b first count windows held places)
      (m : Meaning) (m_is : m ≡ (n).meaning) (k : ℕ) (k_is : k ≡ (n).multiple) (c : ℕ) (c_is : c ≡ count) (word : ℕ) (word_here : word ≡ get_or p.stores.words.items b word)
      (ws : List Items) (ws_is : ws ≡ windows) (hs : List Held) (hs_is : hs ≡ held) (ps : List Items) (ps_is : ps ≡ places) where
    word_is : word ≡ word_at (stored_in p.stores) b
    word_is = word_here ∙ get_or_default p.stores.words.items b word 0 (let long = right.keeps.stored.places.words in let inside = flight.inside in omega arith)

    pub can_work : CanWork m (k * first) (k * c) word ws hs ps
    can_work =
        rw (m_is, k_is, c_is, word_is, ws_is, hs_is, ps_is)
        (may_work (arc_value p.graph).names (net) runs_here valid_here (sizes_of p.capacities) p.stores p.firings b but first count flight windows held places lent)

    pub has_worked : (out : List Items) (next : ℕ) → HasWorked m (k * first) (k * c) word ws hs ps out →
        ((ts : List model.Held) (xs : List (List ℤ)) → IsWorkOf m ts xs (k * first) (k * c) word ws hs → next ≡ m.word ts xs (k * first + k * c)) → IsItsWork (net) (plant_of p).state b windows out next
    has_worked out next has words =
        is_its_work (arc_value p.graph).names (net) runs_here valid_here (sizes_of p.capacities) p.stores p.firings b but first count flight windows held places lent out next
        (rw (← m_is, ← k_is, ← c_is, ← word_is, ← ws_is, ← hs_is, ← ps_is) has) (rw (← m_is, ← k_is, ← c_is, ← word_is, ← ws_is, ← hs_is) words)
