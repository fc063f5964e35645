-- What blocks of a plant wait for.
use Rattle.std.specs.Prelude.{ℕ, length, not, nat_lt, if◌then◌else◌, Result, Ok, Err}
use Rattle.stream_model.specs.Network.{Network, State}
use Rattle.stream_model.specs.Machine.{Capacities}
use Rattle.machine_laws.specs.Waits.{Wait, wait_of}
use Rattle.firing_rules.specs.declared.waits.BlockNeed.{BlockNeed}
use Rattle.firing_rules.specs.Waits.{wait_seen}
use Rattle.plant_faults.specs.declared.fault.PlantFault.{PlantFault}
use Rattle.plant_faults.specs.declared.fault.PlantFault.TheVariants.{NoSuchBlock}

-- the wait that a result is, where it is one
abbrev pub wait_in : Result BlockNeed PlantFault → Result Wait PlantFault
wait_in (Ok need) = Ok (wait_seen need)
wait_in (Err fault) = Err fault

-- what block b waits for, where there is such a block
abbrev pub need_of : Network → Capacities → State → ℕ → Result Wait PlantFault
need_of net caps st b = if not (nat_lt b (length net.nodes)) then Err NoSuchBlock else Ok (wait_of net caps st b)
