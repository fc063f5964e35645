-- What calls about slices of time come to.
use Rattle.std.specs.Prelude.{◌≡◌, ℕ, ◌-◌, ◌^◌, ◌<◌, ◌≤◌, ◌⊎◌, ◌==◌, List, length, map, ⊤, Option, Some, None, MatchOption, if◌then◌else◌}
use Rattle.graph_model.specs.Rates.{Balanced, balance_of}
use Rattle.flowgraph.specs.declared.parts.BlockId.{BlockId}
use Rattle.flowgraph.specs.Flowgraph.{Flowgraph, net_of}
use Rattle.kinds.specs.declared.kind.Kind.{Kind}
use Rattle.kinds.specs.Kind.{meaning_of}
use Rattle.slices.specs.declared.TheConstants.{MOST_ITERATIONS}
use Rattle.slices.specs.declared.plan.Asks.{Asks}
use Rattle.slices.specs.declared.plan.Asks.TheVariants as asking
use Rattle.slices.specs.declared.plan.Plan.{Plan}
use Rattle.slices.specs.declared.plan.Planned.{Planned}
use Rattle.slices.specs.declared.plan.Planned.TheVariants as answers
use Rattle.slices.specs.declared.reach.Content.TheVariants as content
use Rattle.slices.specs.declared.slice.Slice.{Slice}
use Rattle.slices.specs.Kinds.{counts_of, look_back_of}
use Rattle.slices.specs.Firings.{looks_of}
use Rattle.slices.specs.Reaches.{reaches_of}
use Rattle.slices.specs.Plans.{HasGoneOn, IsFirstToCount, IsPlanned, counting_of}
use Rattle.slices.specs.Cuts.{IsSlice}
use Rattle.magbelu_c.specs.declared.any_plant.AnyPlant.{AnyPlant}
use Rattle.magbelu_c.specs.declared.cuts.CutSource.{CutSource}
use Rattle.magbelu_c.specs.declared.cuts.CutSink.{CutSink}
use Rattle.magbelu_c.specs.declared.cuts.CutPart.{CutPart}
use Rattle.magbelu_c.specs.declared.slicing.Slicing.{Slicing}
use Rattle.magbelu_c.specs.declared.slicing.Uncut.{Uncut}
use Rattle.magbelu_c.specs.declared.slicing.Uncut.TheVariants.{Remembers, Rates, Begin, Memory}
use Rattle.magbelu_c.specs.AnyPlants.{plant_of}
use Rattle.magbelu_c.specs.CallAnswers.{shown}
use Rattle.magbelu_c.specs.Cuts.{source_row, sink_row, part_row}

-- what is asked, by a number
abbrev pub asks_of : ℕ → Asks
asks_of tags = if tags == 0 then asking.Items else asking.ItemsAndTags

-- what these firings of an iteration make of a graph
abbrev pub IsPlannedBy : Flowgraph Kind → Asks → List ℕ → Planned → Type 0
IsPlannedBy g asked q planned =
    IsPlanned (net_of meaning_of g) q (looks_of look_back_of g) (reaches_of meaning_of look_back_of content.Items g)
    (reaches_of meaning_of look_back_of content.Tags g) asked planned

-- the rates of a graph have a balance
abbrev pub HasBalance : Flowgraph Kind → List ℕ → Type 0
HasBalance g q = balance_of (net_of meaning_of g) ≡ Balanced q

-- by which it has this plan
pub record HasPlan (g : Flowgraph Kind) (asked : Asks) (q : List ℕ) (plan : Plan) : Type 0 where
  pub balanced : HasBalance g q
  pub planned : IsPlannedBy g asked q (answers.Plan plan)

-- it goes on as it is, where no block counts: then a plant of the graph itself runs its slices
abbrev pub GoesOnAsIs : Flowgraph Kind → List ℕ → Option BlockId → Type 0
GoesOnAsIs g q counting =
    MatchOption counting ((k : ℕ) → HasGoneOn (net_of meaning_of g) q (looks_of look_back_of g) k (net_of meaning_of g))
    (λ block. IsFirstToCount (counting_of counts_of g) block.0)

-- or it has no plan: a block does not forget; where there is a balance, slices by it would overlap too far; or memory
-- ran out
abbrev pub HasNoPlan : Flowgraph Kind → Asks → Uncut → Type 0
HasNoPlan g asked (Remembers block) = (q : List ℕ) × HasBalance g q × IsPlannedBy g asked q (answers.Remembers block)
HasNoPlan g asked Rates = (q : List ℕ) → HasBalance g q → IsPlannedBy g asked q answers.TooLate
HasNoPlan g asked Begin = ⊥
HasNoPlan g asked Memory = ⊤

-- a slice may begin at an iteration, which is the first, or not before the overlap
pub record CanBegin (plan : Plan) (begins : ℕ) : Type 0 where
  pub behind : (begins ≡ 0) ⊎ (plan.overlap ≤ begins)
  pub few : begins ≤ MOST_ITERATIONS

-- or it lies within the first overlap, or too far behind
abbrev pub CannotBegin : Plan → ℕ → Type 0
CannotBegin plan begins = ((1 ≤ begins) × (begins < plan.overlap)) ⊎ (MOST_ITERATIONS < begins)

-- ---- answers
abbrev pub no_block : ℕ
no_block = 2 ^ 32 - 1

abbrev pub number_of : Option BlockId → ℕ
number_of None = no_block
number_of (Some block) = block.0

-- a call was done, for a graph of which this block is the first that counts
abbrev pub told : ℕ → Option BlockId → ℕ → ℕ → Slicing
told iterations counting sources sinks = record {
  status = 0;
  number = 0;
  block = number_of counting;
  iterations = iterations;
  source_count = sources;
  sink_count = sinks;
}

-- or it was not
abbrev pub refused : ℕ → ℕ → ℕ → Slicing
refused status number block = record {
  status = status;
  number = number;
  block = block;
  iterations = 0;
  source_count = 0;
  sink_count = 0;
}

abbrev pub not_cut : Uncut → Slicing
not_cut (Remembers block) = refused 1 63 block.0
not_cut Rates = refused 1 63 no_block
not_cut Begin = refused 1 64 no_block
not_cut Memory = refused 4 32 no_block

-- the plan of a graph, or why it has none
pub data Plans (g : Flowgraph Kind) (asked : Asks) (sources sources' : List CutSource) (sinks sinks' : List CutSink)
    (r : Slicing) : Type 0 where
  PlanShown : (q : List ℕ) → (plan : Plan) → HasPlan g asked q plan → (counting : Option BlockId)
      → GoesOnAsIs g q counting →
      sources' ≡ shown (map source_row plan.sources.items) sources → sinks'
      ≡ shown (map sink_row plan.sinks.items) sinks →
      r ≡ told plan.overlap counting (length plan.sources.items) (length plan.sinks.items)
      → Plans g asked sources sources' sinks sinks' r
  PlanShownNot : (why : Uncut) → HasNoPlan g asked why → sources' ≡ sources → sinks' ≡ sinks → r ≡ not_cut why
      → Plans g asked sources sources' sinks sinks' r

-- the slice of its plan that begins at an iteration, or why there is none
pub data Slices (g : Flowgraph Kind) (asked : Asks) (begins : ℕ) (parts parts' : List CutPart) (r : Slicing) : Type 0
  where
    SliceShown : (q : List ℕ) → (plan : Plan) → HasPlan g asked q plan → CanBegin plan begins → (slice : Slice)
        → IsSlice (net_of meaning_of g) q (looks_of look_back_of g) plan begins slice →
        (counting : Option BlockId) → GoesOnAsIs g q counting → parts' ≡ shown (map part_row slice.parts.items) parts →
        r ≡ told slice.from counting 0 (length slice.parts.items) → Slices g asked begins parts parts' r
    BegunNot : (q : List ℕ) → (plan : Plan) → HasPlan g asked q plan → CannotBegin plan begins → parts' ≡ parts → r
        ≡ not_cut Begin → Slices g asked begins parts parts' r
    SliceShownNot : (why : Uncut) → HasNoPlan g asked why → parts' ≡ parts → r ≡ not_cut why
        → Slices g asked begins parts parts' r

-- a call of the graph of the plant that is held, which stays; or none is held
pub data OnGraph (old new : Option AnyPlant) (Tells : Flowgraph Kind → Type 0) (TellsNone : Type 0) : Type 0 where
  Held : (p : AnyPlant) → old ≡ Some p → new ≡ Some p → Tells (plant_of p).graph → OnGraph old new Tells TellsNone
  NotHeld : old ≡ None → new ≡ None → TellsNone → OnGraph old new Tells TellsNone
