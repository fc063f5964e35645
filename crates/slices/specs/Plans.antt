-- The plan by which runs of a network are cut into slices.
use Rattle.std.specs.Prelude.{ℕ, ◌+◌, ◌*◌, ◌^◌, ◌<◌, ◌≤◌, ◌≡◌, ◌⊎◌, List, length, map, filter, Bool, true, false, slice_index, slice_index_or}
use Rattle.stream_model.specs.Lists.{below}
use Rattle.stream_model.specs.Network.{Network, Node, no_node, node_at, role_at, is_source, is_keeper}
use Rattle.graph_model.specs.Rates.{count_after, is_past_skips}
use Rattle.stream_laws.specs.CanRun.{CanRun}
use Rattle.flowgraph.specs.Flowgraph.{Flowgraph}
use Rattle.slice_laws.specs.Slices.{right_of, IsResumed}
use Rattle.slice_laws.specs.Tags.{ArePlaced, both_right}
use Rattle.slices.specs.declared.look_back.LookBack.{LookBack}
use Rattle.slices.specs.declared.plan.Asks.{Asks}
use Rattle.slices.specs.declared.plan.Asks.TheVariants as asking
use Rattle.slices.specs.declared.plan.Source.{Source}
use Rattle.slices.specs.declared.plan.Sink.{Sink}
use Rattle.slices.specs.declared.plan.Plan.{Plan}
use Rattle.slices.specs.declared.plan.Planned.{Planned}
use Rattle.slices.specs.declared.plan.Planned.TheVariants as answers
use Rattle.slices.specs.declared.reach.Reach.{Reach}
use Rattle.slices.specs.LookBack.{is_forgetful, GoesOnAs}
use Rattle.slices.specs.Firings.{look_at, firing_at, CanRise, AreFirst, AreLeast, AreLate}
use Rattle.slices.specs.Counts.{CanCut}

-- each block forgets what came long ago
abbrev pub AllForget : List LookBack → Type 0
AllForget ls = (b : ℕ) → b < length ls → is_forgetful (look_at ls b) ≡ true

-- block b does not, and those before it do
pub record IsFirstToRemember (ls : List LookBack) (b : ℕ) : Type 0 where
  pub there : b < length ls
  pub remembers : is_forgetful (look_at ls b) ≡ false
  pub first : (a : ℕ) → a < b → is_forgetful (look_at ls a) ≡ true

-- whether what each block of a graph gives rests on how many firings came before
abbrev pub counting_of : {B : Type 0} → (B → Bool) → Flowgraph B → List Bool
counting_of counts g = map (λ e. counts e.block) g.blocks

abbrev pub counts_at : List Bool → ℕ → Bool
counts_at cs b = slice_index_or cs b false

-- no block counts
abbrev pub NoneCounts : List Bool → Type 0
NoneCounts cs = (b : ℕ) → b < length cs → counts_at cs b ≡ false

-- block b does, and none before it
pub record IsFirstToCount (cs : List Bool) (b : ℕ) : Type 0 where
  pub there : b < length cs
  pub counts : counts_at cs b ≡ true
  pub first : (a : ℕ) → a < b → counts_at cs a ≡ false

-- the sources of a network, and its sinks that keep their items
abbrev pub sources_of : Network → List ℕ
sources_of net = filter (λ b. is_source (role_at net b)) (below (length net.nodes))

abbrev pub keepers_of : Network → List ℕ
keepers_of net = filter (λ b. is_keeper (role_at net b)) (below (length net.nodes))

-- a source gives q items an iteration, and a slice reads those of w iterations before its own
abbrev pub source_of : List ℕ → ℕ → ℕ → Source
source_of q w b = record { block = record { 0 = b }; period = slice_index q b; overlap = w * slice_index q b }

-- a sink takes q items an iteration; it has `count_after` of them after w iterations, and a slice drops these
abbrev pub sink_of : Network → List ℕ → (ℕ → ℕ) → (ℕ → ℕ) → ℕ → ℕ → Sink
sink_of net q f g w b = record {
  block = record { 0 = b };
  period = slice_index q b;
  settled = both_right net f g b;
  drop = count_after net q b w;
}

-- the same, from counts after some iterations and so many more
abbrev pub sink_at : Network → List ℕ → List ℕ → List ℕ → List ℕ → ℕ → ℕ → Sink
sink_at net q first tagged there more b =
    record {
      block = record { 0 = b };
      period = slice_index q b;
      settled = both_right net (firing_at first)
          (firing_at tagged) b;
      drop = slice_index there b + more * slice_index q b;
    }

-- after j iterations all skips are past, and each sink has got what is not right yet: items by firings f, tags by
-- firings g
pub record IsEnoughOverlap (net : Network) (q : List ℕ) (f g : ℕ → ℕ) (j : ℕ) : Type 0 where
  pub past : is_past_skips net q j ≡ true
  pub sinks : (b : ℕ) → b < length net.nodes → is_keeper (role_at net b) ≡ true
      → both_right net f g b ≤ count_after net q b j

-- from firings g on tags are right: each block places them so, and what comes to a sink is right
pub record AreTagged (net : Network) (g : ℕ → ℕ) : Type 0 where
  pub placed : ArePlaced net g
  pub sinks : (b : ℕ) → b < length net.nodes → is_keeper (role_at net b) ≡ true → right_of net g b 0 ≤ g b

-- what is asked of firings g, where blocks settle at firings f: without tags they are the same
abbrev pub AreAskedFor : Network → Asks → (ℕ → ℕ) → (ℕ → ℕ) → Type 0
AreAskedFor net asking.Items f g = (b : ℕ) → g b ≡ f b
AreAskedFor net asking.ItemsAndTags f g = AreTagged net g

-- the lists of these firings: the least for tags, or those for items once more
abbrev pub AreAsked : Network → List Reach → Asks → List ℕ → List ℕ → Type 0
AreAsked net tags asking.Items first tagged = tagged ≡ first
AreAsked net tags asking.ItemsAndTags first tagged = AreFirst net tags tagged

-- a block with the same options that goes on where n stands after c firings
pub record IsLaterNode (n : Node) (look : LookBack) (c : ℕ) (later : Node) : Type 0 where
  pub policy : n.policy ≡ later.policy
  pub multiple : n.multiple ≡ later.multiple
  pub goes_on : GoesOnAs n.meaning look c later.meaning

-- how many base firings of block b k iterations are, in which it fires q times each
abbrev pub firings_in : Network → List ℕ → ℕ → ℕ → ℕ
firings_in net q k b = (node_at net b).multiple * (k * slice_index q b)

-- the first so many blocks of a list go on where those of a network stand after k iterations
pub record AreLater (net : Network) (q : List ℕ) (ls : List LookBack) (k count : ℕ) (nodes : List Node) : Type 0 where
  pub long : length nodes ≡ count
  pub each : (b : ℕ) → b < count → IsLaterNode (node_at net b) (look_at ls b) (firings_in net q k b)
      (slice_index_or nodes b no_node)

-- a later network: with the same connections, and all its blocks go on where those of the first stand after k
-- iterations
pub record HasGoneOn (net : Network) (q : List ℕ) (ls : List LookBack) (k : ℕ) (later : Network) : Type 0 where
  pub can : CanRun later
  pub connections : net.connections ≡ later.connections
  pub blocks : AreLater net q ls k (length net.nodes) later.nodes

-- a plan: its overlap is the least that is enough. Later networks resume the first by the same firings, whatever k is
pub record IsPlan (net : Network) (q : List ℕ) (ls : List LookBack) (plan : Plan) : Type 0 where
  pub can : CanCut net q
  pub firing : ℕ → ℕ
  pub resumes : (k : ℕ) (later : Network) → HasGoneOn net q ls k later → IsResumed net q k firing later
  pub tagged : ℕ → ℕ
  pub asked : AreAskedFor net plan.asks firing tagged
  pub few : plan.overlap ≤ 2 ^ 42
  pub enough : IsEnoughOverlap net q firing tagged plan.overlap
  pub least : (j : ℕ) → IsEnoughOverlap net q firing tagged j → plan.overlap ≤ j
  pub sources : plan.sources.items ≡ map (source_of q plan.overlap) (sources_of net)
  pub sinks : plan.sinks.items ≡ map (sink_of net q firing tagged plan.overlap) (keepers_of net)

-- the plan that is asked for: its firings are the least that are far enough, for items and for tags
pub record IsLeastPlan (net : Network) (q : List ℕ) (ls : List LookBack) (for_items for_tags : List Reach)
    (asked : Asks) (plan : Plan) : Type 0 where
  pub is : IsPlan net q ls plan
  pub asks : plan.asks ≡ asked
  pub forget : AllForget ls
  pub items : AreLeast net for_items is.firing
  pub tags : asked ≡ asking.ItemsAndTags → AreLeast net for_tags is.tagged

-- a plan, or why there is none
abbrev pub IsPlanned : Network → List ℕ → List LookBack → List Reach → List Reach → Asks → Planned → Type 0
IsPlanned net q ls items tags asked (answers.Plan p) = IsLeastPlan net q ls items tags asked p
IsPlanned net q ls items tags asked (answers.Remembers b) = IsFirstToRemember ls b.0
IsPlanned net q ls items tags asked answers.TooLate = AreLate net items
    ⊎ ((asked ≡ asking.ItemsAndTags) × AreLate net tags)

-- firings from which items and tags are right, and how many items each sink has got
pub record CanWait (net : Network) (q first tagged there : List ℕ) : Type 0 where
  pub can : CanCut net q
  pub rises : CanRise net first
  pub rises_tagged : CanRise net tagged
  pub few_first : (b : ℕ) → slice_index first b ≤ 2 ^ 40
  pub few_tagged : (b : ℕ) → slice_index tagged b ≤ 2 ^ 40
  pub long : length there ≡ length net.nodes
  pub few : (b : ℕ) → b < length net.nodes → slice_index there b ≤ 8589934592

-- after i more iterations each sink has got what is not right yet
abbrev pub IsEnoughMore : Network → List ℕ → List ℕ → List ℕ → List ℕ → ℕ → Type 0
IsEnoughMore net q first tagged there i =
    (b : ℕ) → b < length net.nodes → is_keeper (role_at net b) ≡ true
    → both_right net (firing_at first) (firing_at tagged) b ≤ slice_index there b + i * slice_index q b

-- the least such number
pub record HasWaited (net : Network) (q first tagged there : List ℕ) (more : ℕ) : Type 0 where
  pub few : more ≤ 2 ^ 41
  pub enough : IsEnoughMore net q first tagged there more
  pub least : (i : ℕ) → IsEnoughMore net q first tagged there i → more ≤ i
