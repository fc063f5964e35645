-- What is told of a graph file that may be refused.
use Rattle.std.specs.Prelude.{◌≡◌, ℕ, List, [], IsOk}
use Rattle.graph_file.specs.declared.fault.FileFault.{FileFault}
use Rattle.graph_file.specs.Refusals.{IsRefused}
use Rattle.flow_core.specs.declared.fault.Fault.{Fault}
use Rattle.flow_core.specs.declared.fault.Fault.TheVariants.{File}
use Rattle.flow_core.specs.Serve.{plant_in}

-- the plant of the file can be opened, and nothing is shown
abbrev pub Accepts : List ℕ → List ℕ → ℕ → Type 0
Accepts file text status = IsOk (plant_in file) × (text ≡ []) × (status ≡ 0)

-- it cannot: the fault reports why, or that memory ran out. What is shown then may be any text
abbrev pub Explains : List ℕ → List ℕ → Fault → Type 0
Explains file text fault = (why : FileFault) × (fault ≡ File why) × IsRefused (plant_in file) why
