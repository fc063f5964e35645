-- When a block takes no value as its setting.
use Rattle.std.specs.Prelude.{ℕ, Option, Some, None, Result, Ok, Err, not, nat_lt, if◌then◌else◌, length}
use Rattle.stream_model.specs.declared.vocabulary.Wanted.{Wanted}
use Rattle.stream_model.specs.Settings.{Value}
use Rattle.stream_model.specs.Network.{Network, node_at}
use Rattle.stream_model.specs.Machine.{is_wanted}
use Rattle.plant_faults.specs.declared.fault.PlantFault.{PlantFault}
use Rattle.plant_faults.specs.declared.fault.PlantFault.TheVariants.{NoSuchBlock, NoSetting, WrongSetting}

-- the refusal that a result is, if it is one
abbrev pub fault_in : {R : Type 0} → Result R PlantFault → Option PlantFault
fault_in (Ok r) = None
fault_in (Err e) = Some e

-- a value that is not wanted is refused, and each where no setting is
abbrev pub unwanted : Option Wanted → Value → Option PlantFault
unwanted None v = Some NoSetting
unwanted (Some w) v = if is_wanted w v then None else Some WrongSetting

-- why block b does not take this value as its setting, if it does not
abbrev pub setting_fault : Network → ℕ → Value → Option PlantFault
setting_fault net b v = if not (nat_lt b (length net.nodes)) then Some NoSuchBlock else unwanted
    (node_at net b).meaning.setting v
