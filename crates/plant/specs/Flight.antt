-- A job that is given back, beside what is stored.
use Rattle.std.specs.Prelude.{◌<◌, ◌≡◌, List}
use Rattle.stream_model.specs.Network.{Network, Progress, progress_at}
use Rattle.stream_model.specs.Machine.{Capacities, Job}
use Rattle.graph_model.specs.Gains.{AreWithinGain}
use Rattle.machine_laws.specs.Sound.{Sound}
use Rattle.machine_laws.specs.Stays.{in_flight}
use Rattle.plant_laws.specs.Holds.{Holds}
use Rattle.plant_storage.specs.declared.stores.Stores.{Stores}
use Rattle.plant_storage.specs.Stores.{stored_in, state_of}

-- what is stored is that of a sound state with this progress, under some capacities
pub record IsStored (net : Network) (s : Stores) (progress : List Progress) : Type 0 where
  pub caps : Capacities
  pub sound : Sound net caps (state_of s.handed.items progress)
  pub gain : AreWithinGain net (state_of s.handed.items progress).handed
  pub holds : Holds net caps (state_of s.handed.items progress) (stored_in s)

-- the job's block has a claim in flight, and the job is it
pub record IsClaim (net : Network) (s : Stores) (progress : List Progress) (job : Job) : Type 0 where
  pub some : 0 < (progress_at progress job.block).claimed
  pub same : job ≡ in_flight net (state_of s.handed.items progress) job.block
