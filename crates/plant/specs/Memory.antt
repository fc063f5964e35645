-- What steps need no memory for: what a block was lent before is lent again.
use Rattle.std.specs.Prelude.{ℕ, ◌+◌, ◌*◌, ◌≡◌, List, ℤ, map, None, All, slice_index_or}
use Rattle.std.specs.Arc.{arc_value}
use Rattle.stream_model.specs.Meaning.{Meaning}
use Rattle.stream_model.specs.Network.{Network, node_at}
use Rattle.stream_model.specs.Machine.{Job}
use Rattle.items.specs.Items.{numbers_of}
use Rattle.block_trait.specs.Work.{IsReady}
use Rattle.flowgraph.specs.Flowgraph.{net_of}
use Rattle.claimed_work.specs.declared.lent.Lent.{Lent}
use Rattle.plant_laws.specs.Stored.{timeline_at}
use Rattle.plant_storage.specs.Stores.{stored_in}
use Rattle.plant_transfers.specs.Places.{Suffices}
use Rattle.plant_transfers.specs.Spare.{HasSpareFor}
use Rattle.plant.specs.declared.parts.Parts.{Parts}

-- what block b was lent suffices for firings from k up to the next ones, before memory is needed
abbrev pub IsLentEnough : {B P : Type 0} → (B → Meaning) → Parts B P → ℕ → ℕ → ℕ → Type 0
IsLentEnough meaning p b k next =
    (d : Lent) → let lent = slice_index_or p.lent.items b d in
    Suffices (net_of meaning (arc_value p.graph)) b k next lent.windows.items lent.outputs.items

-- it suffices still for all firings of all blocks for which it sufficed
abbrev pub LosesNone : {B P : Type 0} → (B → Meaning) → Parts B P → Parts B P → Type 0
LosesNone meaning old new = (b k next : ℕ) → IsLentEnough meaning old b k next → IsLentEnough meaning new b k next

-- these firings need no memory: their block has no settings, what it was lent suffices, and there is room for the tags
-- on the items that they take and, of a sink, for these items
pub record NeedsNone {B P : Type 0} (meaning : B → Meaning) (p : Parts B P) (b first count : ℕ) : Type 0 where
  pub settings : timeline_at (stored_in p.stores) b ≡ None
  pub lent : IsLentEnough meaning p b first (first + count)
  pub room : HasSpareFor (net_of meaning (arc_value p.graph)) p.stores b first count

-- what a job was lent lies where its block has its place: with its windows, and with room for what its firings give
abbrev pub HoldsJob : {B P : Type 0} → Network → Parts B P → Job → Type 0
HoldsJob net p job =
    (d : Lent) → let lent = slice_index_or p.lent.items job.block d in
    let n = node_at net job.block in
    (map numbers_of lent.windows.items ≡ job.windows) × All (IsReady n.meaning (n.multiple * job.first)
    (n.multiple * job.count)) lent.outputs.items

-- what a job was lent lies there after its work: with these items in windows and outputs
abbrev pub HoldsWork : {B P : Type 0} → Parts B P → ℕ → List (List ℤ) → List (List ℤ) → Type 0
HoldsWork p b windows outputs =
    (d : Lent) → let lent = slice_index_or p.lent.items b d in
    (map numbers_of lent.windows.items ≡ windows) × (map numbers_of lent.outputs.items ≡ outputs)
