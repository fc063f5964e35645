-- What a drain that appends answers.
use Rattle.std.specs.Prelude.{ℕ, ℤ, ◌≡◌, ◌+◌, ◌≤◌, List, min, slice_range, ⊤, Option, Some, None, Result, Ok, Err, not, nat_lt, if◌then◌else◌, length}
use Rattle.stream_model.specs.declared.vocabulary.ItemType.{ItemType}
use Rattle.stream_model.specs.Numbers.{types_agree}
use Rattle.stream_model.specs.Tags.{Tag, tags_within}
use Rattle.stream_model.specs.Network.{Network, State, node_at, progress_at, role_at, is_keeper}
use Rattle.machine_laws.specs.Sound.{fired}
use Rattle.plant_faults.specs.declared.fault.PlantFault.{PlantFault}
use Rattle.plant_faults.specs.declared.fault.PlantFault.TheVariants.{NoSuchBlock, NotSink, ItemRange, Memory}
use Rattle.streaming.specs.declared.draining.Appended.{Appended}
use Rattle.streaming.specs.Streaming.{stream_into, tags_into}

-- the drain begins where the last one ended, and tells how far the sink is
pub record IsAtSink (st : State) (b from : ℕ) (d : Appended) : Type 0 where
  pub begins : d.from ≡ from
  pub holds : d.held ≡ fired st b
  pub ends : d.done ≡ (progress_at st.progress b).done

-- where a drain of at most max items ends
abbrev pub end_of : Appended → ℕ → ℕ
end_of d max = min (d.from + max) d.held

-- the items that it takes away, and the tags on them
abbrev pub items_taken : Network → State → ℕ → Appended → ℕ → List ℤ
items_taken net st b d max = slice_range (stream_into net st b) d.from (end_of d max)

abbrev pub tags_taken : Network → State → ℕ → Appended → ℕ → List Tag
tags_taken net st b d max = tags_within d.from (end_of d max) (tags_into net st b)

-- where a sink was drained up to an item, there is room for all that a drain of at most max takes away: beside `spare`
-- items and `len` tags of `most`
pub record HasRoom (net : Network) (st : State) (b from max spare len most : ℕ) : Type 0 where
  pub items : min (from + max) (fired st b) ≤ spare + from
  pub tags : len + length (tags_within from (min (from + max) (fired st b)) (tags_into net st b)) ≤ most

-- why a drain into items of a type is refused
abbrev pub drain_fault : Network → ℕ → ItemType → Option PlantFault
drain_fault net b item =
    if not (nat_lt b (length net.nodes)) then Some NoSuchBlock
    else (if not (is_keeper (role_at net b)) then Some NotSink
    else (if not (types_agree item (node_at net b).meaning.inputs.item) then Some ItemRange
    else None))

-- it is refused so, or fails where memory runs out
abbrev pub MayBeRefused : Option PlantFault → Result Appended PlantFault → Type 0
MayBeRefused (Some fault) result = result ≡ Err fault
MayBeRefused None (Ok appended) = ⊤
MayBeRefused None (Err fault) = fault ≡ Memory
