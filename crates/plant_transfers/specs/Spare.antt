-- Room for more, before memory is needed.
use Rattle.std.specs.Prelude.{ℕ, ◌+◌, ◌≤◌, ◌≡◌, [], length, true, All, slice_index_or, sum_by, vec_capacity}
use Rattle.stream_model.specs.Network.{Network, role_at, is_keeper}
use Rattle.recordings.specs.Recording.{RecordingState}
use Rattle.plant_storage.specs.declared.stores.Stores.{Stores}
use Rattle.plant_storage.specs.Stores.{rows_in, stored_in}
use Rattle.plant_storage.specs.Lending.{sink_state}
use Rattle.plant_transfers.specs.Tags.{tags_on_items}

-- a sink has room for so many more items and tags
pub record HasSpare (items tags : ℕ) (sink : RecordingState) : Type 0 where
  pub more_items : items ≤ sink.spare_items
  pub more_tags : tags ≤ sink.spare_tags

-- how many tags lie on the items that these firings take
abbrev pub tags_taken_by : Network → Stores → ℕ → ℕ → ℕ → ℕ
tags_taken_by net s b first count = sum_by length (tags_on_items net (stored_in s) b first (first + count))

-- these tags have room in each output's buffer and in the list in which those of one output are put together, and in a
-- sink that keeps the items, which has room for these, too
pub record HasSpareFor (net : Network) (s : Stores) (b first count : ℕ) : Type 0 where
  pub outputs : All (λ buffer. tags_taken_by net s b first count ≤ buffer.spare) (slice_index_or (rows_in s) b [])
  pub brought : tags_taken_by net s b first count ≤ vec_capacity s.brought
  pub sink : is_keeper (role_at net b) ≡ true → HasSpare count (tags_taken_by net s b first count) (sink_state s b)
