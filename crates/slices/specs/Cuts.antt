-- A slice of a run, and that the run goes on with it.
use Rattle.std.specs.Prelude.{ℕ, zero, suc, ◌+◌, ◌-◌, ◌*◌, ◌<◌, ◌≤◌, ◌≡◌, ◌⊎◌, ℤ, List, ◌++◌, length, map, drop, All}
use Rattle.stream_model.specs.Network.{Network, Handed, writer_of, items_of, tags_entering}
use Rattle.slice_laws.specs.Slices.{AreRest}
use Rattle.slice_laws.specs.Tags.{tags_from_item, ahead_by, AreRestTags}
use Rattle.slice_laws.specs.Pieces.{IsHandedMore}
use Rattle.slice_laws.specs.Counting.{HasIterations, IsEndless}
use Rattle.slices.specs.declared.plan.Asks.TheVariants.{ItemsAndTags}
use Rattle.slices.specs.declared.plan.Plan.{Plan}
use Rattle.slices.specs.declared.plan.Sink.{Sink}
use Rattle.slices.specs.declared.slice.Part.{Part}
use Rattle.slices.specs.declared.slice.Slice.{Slice}
use Rattle.slices.specs.declared.look_back.LookBack.{LookBack}
use Rattle.slices.specs.Plans.{keepers_of, HasGoneOn}

-- what a slice that begins at iteration k, and leaves out so many of the tapes, gives a sink
abbrev pub part_of : ℕ → ℕ → Sink → Part
part_of zero from s = record { block = s.block; drop = 0; stands = 0 }
part_of (suc k) from s = record { block = s.block; drop = s.drop; stands = s.drop + from * s.period }

-- the items that come to a sink
abbrev pub items_into : Network → List Handed → ℕ → List ℤ
items_into net hs b = let c = writer_of net b 0 in items_of net hs c.from c.out_port

-- what came to a sink before goes on with the items that the later network gives behind those that are dropped. These
-- stand at the part's place, unless a block ended before, and nothing is left to give
pub record GoesOn (net later : Network) (before after rest : List Handed) (part : Part) : Type 0 where
  pub few : length (items_into net before part.block.0) ≤ part.stands
  pub stands : IsEndless net ⊎ (part.drop < length (items_into later rest part.block.0))
      → length (items_into net before part.block.0) ≡ part.stands
  pub joins : items_into net after part.block.0 ≡ items_into net before part.block.0
      ++ drop part.drop (items_into later rest part.block.0)

-- the tags that came to a sink before go on with those of the later network on items that are not dropped, as far ahead
-- as these items stand
abbrev pub TagsGoOn : Network → Network → List Handed → List Handed → List Handed → Part → Type 0
TagsGoOn net later before after rest part =
    tags_entering net after part.block.0 0
    ≡ tags_entering net before part.block.0 0 ++ ahead_by (part.stands - part.drop)
    (tags_from_item part.drop (tags_entering later rest part.block.0 0))

-- the slice of a plan that begins at iteration k. It reads the iterations of the overlap before, as far as there are
-- any. The first drops nothing. For a later one take any tapes, those of their first k iterations, what is left of the
-- tapes from where the slice reads on, and the network whose blocks go on there. A plan for tags says the same of them,
-- where marks are left out likewise
pub record IsSlice (net : Network) (q : List ℕ) (ls : List LookBack) (plan : Plan) (k : ℕ) (slice : Slice) : Type 0
  where
    pub reads : slice.from ≡ k - plan.overlap
    pub sinks : map (λ (part : Part). part.block.0) slice.parts.items ≡ keepers_of net
    pub drops_none : k ≡ 0 → All (λ (part : Part). (part.drop ≡ 0) × (part.stands ≡ 0)) slice.parts.items
    pub goes_on :
        1 ≤ k → (later : Network) → HasGoneOn net q ls slice.from later →
        (before after rest : List Handed) → HasIterations net q k before → IsHandedMore net before after
        → AreRest net q slice.from after rest →
        All (GoesOn net later before after rest) slice.parts.items
    pub tags_go_on :
        plan.asks ≡ ItemsAndTags → 1 ≤ k → (later : Network) → HasGoneOn net q ls slice.from later →
        (before after rest : List Handed) → HasIterations net q k before → IsHandedMore net before after
        → AreRest net q slice.from after rest →
        AreRestTags net q slice.from after rest → All (TagsGoOn net later before after rest) slice.parts.items
