-- Places for items.
use Rattle.std.specs.Prelude.{◌≡◌, ℕ, ◌+◌, ◌-◌, ◌<◌, ◌≤◌, List, [], length, All, slice_index_or, true, false}
use Rattle.stream_model.specs.declared.vocabulary.ItemType.{ItemType}
use Rattle.stream_model.specs.Network.{Network, node_at, role_at, is_source, writers_of, used_outputs, given_by}
use Rattle.items.specs.declared.stream_items.Items.{Items}
use Rattle.items.specs.Items.{type_of, numbers_of, spare_of}
use Rattle.plant_storage.specs.Lending.{takes_between}

-- an empty place for items of a type, with room for so many
pub record IsPlace (item : ItemType) (count : ℕ) (place : Items) : Type 0 where
  pub type : type_of place ≡ item
  pub empty : numbers_of place ≡ []
  pub room : count ≤ spare_of place

-- how many items fit a place before memory is needed, those that it has included
abbrev pub room_of : Items → ℕ
room_of place = length (numbers_of place) + spare_of place

-- so many places for items of a type
pub record ArePlaces (item : ItemType) (count : ℕ) (places : List Items) : Type 0 where
  pub many : length places ≡ count
  pub types : All (λ p. type_of p ≡ item) places

-- a place has the same type as before, and no less room
pub record KeepsRoom (old new : Items) : Type 0 where
  pub type : type_of new ≡ type_of old
  pub room : room_of old ≤ room_of new

-- so has each of some places
pub record KeepRoom (old new : List Items) : Type 0 where
  pub many : length new ≡ length old
  pub each : (p : ℕ) (d : Items) → p < length old → KeepsRoom (slice_index_or old p d) (slice_index_or new p d)

-- how many windows a job of block b has: a source's is cut out of its tape, any other block has one for each input
abbrev pub windows_of : Network → ℕ → ℕ
windows_of net b = elim (is_source (role_at net b)) [
  | true ↦ 1
  | false ↦ length (writers_of net b)
]

-- how many items window p has for firings from k up to the next ones: those that they take, behind the past that they
-- read
abbrev pub window_size : Network → ℕ → ℕ → ℕ → ℕ → ℕ
window_size net b p k next = elim (is_source (role_at net b)) [
  | true ↦ next - k
  | false ↦ (node_at net b).meaning.history - 1 + takes_between net b p k next
]

-- the windows of these firings fit the places
pub record HoldWindows (net : Network) (b k next : ℕ) (windows : List Items) : Type 0 where
  pub are : ArePlaces (node_at net b).meaning.inputs.item (windows_of net b) windows
  pub fit : (p : ℕ) (d : Items) → p < windows_of net b → window_size net b p k next ≤ room_of
      (slice_index_or windows p d)

-- what they give on each output fits the places
pub record HoldOutputs (net : Network) (b k next : ℕ) (outputs : List Items) : Type 0 where
  pub are : ArePlaces (node_at net b).meaning.outputs.item (used_outputs net b) outputs
  pub fit : All (λ o. given_by (node_at net b) next - given_by (node_at net b) k ≤ room_of o) outputs

-- what block b was lent suffices for these firings, before memory is needed
pub record Suffices (net : Network) (b k next : ℕ) (windows outputs : List Items) : Type 0 where
  pub seen : HoldWindows net b k next windows
  pub given : HoldOutputs net b k next outputs
