-- How far blocks are, in items.
use Rattle.std.specs.Prelude.{ℕ, ◌-◌, List, [], ◌∷◌, length, not, nat_lt, if◌then◌else◌, Option, Some, None, Result, Ok, Err}
use Rattle.stream_model.specs.Network.{Connection, Network, State, node_at, handed_at, writers_of, taken_by, given_by}
use Rattle.machine_laws.specs.Sound.{fired}
use Rattle.plant_faults.specs.declared.fault.PlantFault.{PlantFault}
use Rattle.plant_faults.specs.declared.fault.PlantFault.TheVariants.{NoSuchBlock}
use Rattle.streaming.specs.declared.levels.Levels.{Levels}

-- the block that writes a block's first input, if one does
abbrev pub first_writer : List Connection → Option ℕ
first_writer [] = None
first_writer (c ∷ cs) = Some c.from

-- how far block b is, whose first input is a tape, or is written by a block: what it has taken and given, and what has
-- come and is not taken
abbrev pub levels_by : Network → State → ℕ → Option ℕ → Levels
levels_by net st b None = record {
  taken = fired st b;
  given = fired st b;
  waiting = length
      (handed_at st.handed b).tape - fired st b;
}
levels_by net st b (Some w) =
    let taken = taken_by (node_at net b) 0 (fired st b) in
    record {
      taken = taken;
      given = given_by (node_at net b) (fired st b);
      waiting = given_by (node_at net w)
          (fired st w) - taken;
    }

abbrev pub levels_of : Network → State → ℕ → Levels
levels_of net st b = levels_by net st b (first_writer (writers_of net b))

-- the same, where there is such a block
abbrev pub levels_at : Network → State → ℕ → Result Levels PlantFault
levels_at net st b = if not (nat_lt b (length net.nodes)) then Err NoSuchBlock else Ok (levels_of net st b)
