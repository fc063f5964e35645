-- What is reported of an output's buffer.
use Rattle.std.specs.Prelude.{◌≡◌, ℕ, ◌-◌, ◌≤◌, min, length, map, Option, Some, None, not, nat_lt, if◌then◌else◌}
use Rattle.stream_model.specs.Tags.{tags_within}
use Rattle.stream_model.specs.Network.{Network, State, node_at, readers_of, used_outputs, given_by, tags_of}
use Rattle.stream_model.specs.Machine.{Capacities, capacity_at}
use Rattle.machine_laws.specs.Sound.{fired}
use Rattle.ring_readers.specs.State.{most_kept, slowest_of}
use Rattle.plant_laws.specs.Holds.{place_of, greatest_history}
use Rattle.plant_storage.specs.declared.stored.Stored.{Stored}
use Rattle.plant_faults.specs.declared.fault.PlantFault.{PlantFault}
use Rattle.plant_faults.specs.declared.fault.PlantFault.TheVariants.{NoSuchBlock, NoSuchPort}

-- why nothing is reported of output p of block b, if so: there is no such block, or it does not use such an output
abbrev pub port_fault : Network → ℕ → ℕ → Option PlantFault
port_fault net b p = if not (nat_lt b (length net.nodes)) then Some
    NoSuchBlock else (if not (nat_lt p (used_outputs net b)) then Some NoSuchPort else None)

-- behind the slowest live reader: as many items as its capacity and the greatest past of its readers ask, and as many
-- tags as the stream has on items from that reader's place on
pub record KeepsBehind (net : Network) (caps : Capacities) (st : State) (b p place : ℕ) (kept : Stored) : Type 0 where
  pub items : kept.items ≡ min (given_by (node_at net b) (fired st b))
      (most_kept (capacity_at caps b p) (greatest_history net b p))
  pub unread : given_by (node_at net b) (fired st b) - place ≤ kept.items
  pub tags : kept.tags ≡ length (tags_within place (given_by (node_at net b) (fired st b)) (tags_of net st.handed b p))

-- where no reader is live, no tags are kept, and the items that were kept as the last of them ended
abbrev pub KeepsFor : Network → Capacities → State → ℕ → ℕ → Option ℕ → Stored → Type 0
KeepsFor net caps st b p None kept = kept.tags ≡ 0
KeepsFor net caps st b p (Some place) kept = KeepsBehind net caps st b p place kept

-- in no case more items than the capacity and the greatest past of the readers ask
pub record IsKeptOf (net : Network) (caps : Capacities) (st : State) (b p : ℕ) (kept : Stored) : Type 0 where
  pub most : kept.items ≤ most_kept (capacity_at caps b p) (greatest_history net b p)
  pub behind : KeepsFor net caps st b p (slowest_of (map (place_of net st) (readers_of net b p))) kept
