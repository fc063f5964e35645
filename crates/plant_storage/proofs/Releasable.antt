-- A live block can be taken from the readers of its inputs.
use Rattle.std.proofs.Common.{◌≡◌, ℕ, ◌<◌, false, length}
use Rattle.stream_model.specs.Network.{Network, State, progress_at}
use Rattle.stream_model.specs.Machine.{Capacities}
use Rattle.stream_laws.specs.CanRun.{CanRun}
use Rattle.machine_laws.specs.Sound.{Sound}
use Rattle.plant_laws.specs.Stored.{Stored}
use Rattle.plant_laws.specs.Holds.{Holds}
use Rattle.plant_laws.proofs.Ending.{readers_leave_in_turn}
use Rattle.plant_storage.specs.Delivery.{CanRelease}

pub can_release : (net : Network) → CanRun net → (caps : Capacities) (st : State) → Sound net caps st → (stored : Stored) → Holds net caps st stored → (b : ℕ) → b < length net.nodes →
    (progress_at st.progress b).done ≡ false → CanRelease net stored b
can_release net can caps st sound stored holds b in' live = record { inside = in'; readers = λ q used. readers_leave_in_turn net caps st stored can sound holds b q in' live used }
