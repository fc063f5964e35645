-- What a contract sees of a plant that streams.
use Rattle.std.specs.Prelude.{ℕ, ◌+◌, ◌<◌, ◌≡◌, All, List, ◌++◌, length, take, true, false, IsSome, slice_index_or, slice_set, ℤ}
use Rattle.stream_model.specs.Tags.{Tag, tags_within}
use Rattle.stream_model.specs.Meaning.{Meaning, input}
use Rattle.stream_model.specs.Network.{Network, State, node_at, role_at, is_source, taken_by, entering, tags_entering}
use Rattle.stream_model.specs.Machine.{Capacities, Call, run_of, is_idle}
use Rattle.graph_model.specs.Gains.{longest_within_gain}
use Rattle.machine_laws.specs.Sound.{fired}
use Rattle.flowgraph.specs.Flowgraph.{Flowgraph, net_of}
use Rattle.plant_laws.specs.Stored.{Firsts}
use Rattle.plant.specs.declared.parts.Parts.{Parts}
use Rattle.plant.specs.Plant.{IsRight, PlantState, plant_of, spans_in}
use Rattle.plant.specs.Opening.{opening_plant_within}

-- the plant as it would be if it forgot nothing, and the first item that is kept in memory of each tape, of what each
-- sink has collected, and of each block's settings
pub record StreamingState (B : Type 0) : Type 0 where
  pub plant : PlantState B
  pub kept : Firsts

-- what a plant that streams keeps: it claims and commits in one, so that nothing is in flight between two calls, and it
-- has its tapes alone
pub record IsStreaming {B P : Type 0} (meaning : B → Meaning) (p : Parts B P) : Type 0 where
  pub right : IsRight meaning p
  pub idle : is_idle (plant_of p).state ≡ true
  pub own : All (λ o. o ≡ true) (spans_in p).own

-- how many items were drained of a sink: the first that is kept is the next
abbrev pub drained : {B : Type 0} → StreamingState B → ℕ → ℕ
drained s b = slice_index_or s.kept.sinks b 0

-- the first item of a source's tape that is kept
abbrev pub tape_kept : {B : Type 0} → StreamingState B → ℕ → ℕ
tape_kept s b = slice_index_or s.kept.tapes b 0

-- the first item at which a block's settings may still be read
abbrev pub settings_kept : {B : Type 0} → StreamingState B → ℕ → ℕ
settings_kept s b = slice_index_or s.kept.settings b 0

-- the one stream that enters a sink, and its tags, by the equations of the blocks
abbrev pub stream_into : Network → State → ℕ → List ℤ
stream_into net st b = input (entering net st.handed b) 0

abbrev pub tags_into : Network → State → ℕ → List Tag
tags_into net st b = tags_entering net st.handed b 0

-- as it opens, a tape may come to hold as many items as the greatest gain of the graph allows
abbrev pub streaming_opening : {B : Type 0} → (B → Meaning) → Flowgraph B → PlantState B
streaming_opening meaning graph = opening_plant_within (longest_within_gain (net_of meaning graph)) meaning graph

-- a sink was drained up to an item, and nothing else changed
pub record HasDrainedTo {B : Type 0} (old new : StreamingState B) (sink to : ℕ) : Type 0 where
  pub plant : new.plant ≡ old.plant
  pub tapes : new.kept.tapes ≡ old.kept.tapes
  pub sinks : new.kept.sinks ≡ slice_set old.kept.sinks sink to
  pub settings : new.kept.settings ≡ old.kept.settings

-- of no tape is anything kept that its source has taken, nor of the settings of a block that has some what no item is
-- read with any more
pub record KeepsNoTaken {B : Type 0} (net : Network) (s : StreamingState B) : Type 0 where
  pub tapes : (b : ℕ) → b < length net.nodes → is_source (role_at net b) ≡ true → tape_kept s b ≡ fired s.plant.state b
  pub settings : (b : ℕ) → b < length net.nodes → is_source (role_at net b) ≡ false → IsSome (node_at net b).meaning.own
      → settings_kept s b ≡ taken_by (node_at net b) 0 (fired s.plant.state b)

-- what is drained of a sink goes on where it stopped: with these items and tags, what was drained is a longer beginning
-- of the stream
pub record GoesOn (net : Network) (st : State) (b from : ℕ) (items : List ℤ) (tags : List Tag) : Type 0 where
  pub items_join : take (from + length items) (stream_into net st b) ≡ take from (stream_into net st b) ++ items
  pub tags_join : tags_within 0 (from + length items) (tags_into net st b) ≡ tags_within 0 from (tags_into net st b)
      ++ tags

-- whatever is called later, the first k items of the stream that enters a sink stay, and the tags on them
abbrev pub StaysBegun : Network → Capacities → State → ℕ → ℕ → Type 0
StaysBegun net caps st b k =
    (calls : List Call) → let later = (run_of net caps st calls).1 in
    (take k (stream_into net later b) ≡ take k (stream_into net st b))
    × (tags_within 0 k (tags_into net later b) ≡ tags_within 0 k (tags_into net st b))
