-- Plants whose blocks go on where those of a graph file stand after some iterations.
use Rattle.std.specs.Prelude.{◌≡◌, ℕ, ◌<◌, ◌≤◌, List, [], ⊤, Option, Some, None, Ok}
use Rattle.flowgraph.specs.Flowgraph.{Flowgraph, net_of}
use Rattle.graph_file.specs.declared.fault.FileFault.{FileFault}
use Rattle.file_plants.specs.Opening.{opened_of}
use Rattle.graph_file.specs.Refusals.{IsRefused}
use Rattle.kinds.specs.declared.kind.Kind.{Kind}
use Rattle.kinds.specs.Kind.{meaning_of}
use Rattle.plant.specs.Plant.{ForgetsNone, PlantState}
use Rattle.slices.specs.declared.TheConstants.{MOST_ITERATIONS}
use Rattle.slices.specs.declared.plan.Asks.TheVariants as asking
use Rattle.slices.specs.declared.plan.Plan.{Plan}
use Rattle.slices.specs.Firings.{looks_of}
use Rattle.slices.specs.Kinds.{look_back_of}
use Rattle.slices.specs.Plans.{HasGoneOn}
use Rattle.streaming.specs.Streaming.{StreamingState, streaming_opening}
use Rattle.flow_core.specs.declared.fault.Fault.TheVariants.{File}
use Rattle.flow_core.specs.Serve.{streamed_in}
use Rattle.magbelu_c.specs.declared.answer.Answer.{Answer}
use Rattle.magbelu_c.specs.declared.any_plant.AnyPlant.{AnyPlant}
use Rattle.magbelu_c.specs.declared.any_plant.AnyPlant.TheVariants.{Whole, Streaming}
use Rattle.magbelu_c.specs.declared.later.Unopened.{Unopened}
use Rattle.magbelu_c.specs.declared.later.Unopened.TheVariants as unopened
use Rattle.magbelu_c.specs.declared.slicing.Uncut.{Uncut}
use Rattle.magbelu_c.specs.declared.slicing.Uncut.TheVariants.{Remembers, Rates, Begin, Memory}
use Rattle.magbelu_c.specs.CallAnswers.{ToldBadly}
use Rattle.magbelu_c.specs.Held.{answered}
use Rattle.magbelu_c.specs.Slicing.{HasNoPlan, HasPlan, not_cut}

-- what is so of the graph of a file whose plant can be opened
pub record OfGraph (file : List ℕ) (Is : Flowgraph Kind → Type 0) : Type 0 where
  pub first : PlantState Kind
  pub opens : streamed_in file ≡ Ok (opened_of first)
  pub is : Is first.graph

-- of a graph with a plan: a plant that streams of a graph whose blocks go on where those of the first stand after k
-- iterations. Nothing is fed to it, and nothing of it is forgotten
pub record IsLaterStream (g : Flowgraph Kind) (k : ℕ) (s : StreamingState Kind) : Type 0 where
  pub q : List ℕ
  pub plan : Plan
  pub planned : HasPlan g asking.Items q plan
  pub few : k ≤ MOST_ITERATIONS
  pub gone_on : HasGoneOn (net_of meaning_of g) q (looks_of look_back_of g) k (net_of meaning_of s.plant.graph)
  pub opens : s.plant ≡ streaming_opening meaning_of s.plant.graph
  pub whole : ForgetsNone s.kept

abbrev pub IsLater : Flowgraph Kind → ℕ → AnyPlant → Type 0
IsLater g k (Whole p) = ⊥
IsLater g k (Streaming s) = IsLaterStream g k s

-- or there is none: the graph has no plan, so many iterations are too many, or memory ran out
abbrev pub HasNoLater : Flowgraph Kind → ℕ → Uncut → Type 0
HasNoLater g k (Remembers block) = HasNoPlan g asking.Items (Remembers block)
HasNoLater g k Rates = HasNoPlan g asking.Items Rates
HasNoLater g k Begin = (q : List ℕ) × (plan : Plan) × HasPlan g asking.Items q plan × (MOST_ITERATIONS < k)
HasNoLater g k Memory = ⊤

-- or the file is refused as one that is opened to stream from its beginning
abbrev pub OpensNot : List ℕ → ℕ → Unopened → Type 0
OpensNot file k (unopened.File fault) = IsRefused (streamed_in file) fault
OpensNot file k (unopened.Uncut why) = OfGraph file (λ g. HasNoLater g k why)

-- such a plant is held from now on; or the file is refused, with its line; or there is none, without a line; or a plant
-- is held already
pub data OpensLater (file : List ℕ) (k : ℕ) (old new : Option AnyPlant) (err err' : List ℕ) (a : Answer) : Type 0 where
  OpenedLater : old ≡ None → (p : AnyPlant) → OfGraph file (λ g. IsLater g k p) → new ≡ Some p → err' ≡ err → a
      ≡ answered 0 0 → OpensLater file k old new err err' a
  RefusedLater : old ≡ None → new ≡ None → (fault : FileFault) → OpensNot file k (unopened.File fault)
      → ToldBadly [] (File fault) [] [] err err' a →
      OpensLater file k old new err err' a
  HasNone : old ≡ None → new ≡ None → (why : Uncut) → OpensNot file k (unopened.Uncut why) → err' ≡ err → a
      ≡ answered (not_cut why).status (not_cut why).number →
      OpensLater file k old new err err' a
  IsOpenAlready : (p : AnyPlant) → old ≡ Some p → new ≡ Some p → err' ≡ err → a ≡ answered 1 56
      → OpensLater file k old new err err' a
