-- How the program says why an action is not done.
use Rattle.std.specs.Prelude.{ℕ, List, []}
use Rattle.refusal_codes.specs.Texts.{head}
use Rattle.threads.specs.Fault.{row_of}
use Rattle.flow_core.specs.Faults.{fault_line, status_of, stop_line}
use Rattle.flow_runs.specs.declared.fault.ServeFault.{ServeFault}
use Rattle.flow_runs.specs.declared.fault.ServeFault.TheVariants.{Command, Run}

-- the line that tells a fault, where the graph file has that name: that of a run in threads by its number and name
abbrev pub serve_line : List ℕ → ServeFault → List ℕ
serve_line name (Command fault) = fault_line name fault
serve_line name (Run fault) = stop_line (head (row_of fault)) []

-- the exit status that a fault brings: 4 for threads
abbrev pub serve_status : ServeFault → ℕ
serve_status (Command fault) = status_of fault
serve_status (Run fault) = 4
