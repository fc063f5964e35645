-- How the program says why it stops.
use Rattle.std.specs.Prelude.{ℕ, List, [], ◌∷◌, ◌++◌, ◌==◌, codes, if◌then◌else◌}
use Rattle.std.specs.Fmt.{decimal}
use Rattle.graph_file.specs.declared.fault.FileFault.{FileFault}
use Rattle.graph_file.specs.Refusals as files
use Rattle.refusal_codes.specs.Texts.{head}
use Rattle.graph_file.specs.Texts.{fault_text as file_text}
use Rattle.script_text.specs.Replies.{line_text}
use Rattle.flow_core.specs.declared.fault.Fault.{Fault}
use Rattle.flow_core.specs.declared.fault.Fault.TheVariants.{File, Script}
use Rattle.flow_core.specs.declared.script.ScriptFault.{ScriptFault}
use Rattle.flow_core.specs.declared.script.ScriptFault.TheVariants as script

-- the number and the name of a script's fault, and of any
abbrev pub script_row : ScriptFault → ℕ × List ℕ
script_row (script.BadLine n) = (50, codes "BadLine")
script_row script.Read = (51, codes "Read")
script_row script.Write = (52, codes "Write")
script_row script.Memory = (32, codes "Memory")

abbrev pub row_of : Fault → ℕ × List ℕ
row_of (File fault) = files.row_of fault
row_of (Script fault) = script_row fault

-- what is said behind the name of a script's fault
abbrev pub script_rest : ScriptFault → List ℕ
script_rest (script.BadLine n) = codes " " ++ decimal n
script_rest script.Read = []
script_rest script.Write = []
script_rest script.Memory = []

-- number, name and detail of a script's fault, and of any
abbrev pub script_fault_text : ScriptFault → List ℕ
script_fault_text fault = head (script_row fault) ++ script_rest fault

abbrev pub fault_text : Fault → List ℕ
fault_text (File fault) = file_text fault
fault_text (Script fault) = script_fault_text fault

-- what stands behind a fault: the name of what it is found in, if that has one
abbrev pub found_in : List ℕ → List ℕ
found_in [] = []
found_in (c ∷ name) = codes " in " ++ c ∷ name

-- a fault of the graph file is found in the file of that name
abbrev pub file_of : List ℕ → Fault → List ℕ
file_of name (File fault) = name
file_of name (Script fault) = []

-- the line that says why a command stopped, with this text, found in what has that name
abbrev pub stop_line : List ℕ → List ℕ → List ℕ
stop_line text name = line_text (codes "flow: refused " ++ text ++ found_in name)

-- the line that tells a fault, where the graph file has that name
abbrev pub fault_line : List ℕ → Fault → List ℕ
fault_line name fault = stop_line (fault_text fault) (file_of name fault)

-- the number of out of memory
abbrev pub memory_number : ℕ
memory_number = 32

-- the exit status that a fault brings: 4 for memory and devices, 1 for a file and for a line
abbrev pub status_of_file : FileFault → ℕ
status_of_file fault = if files.number_of fault == memory_number then 4 else 1

abbrev pub status_of : Fault → ℕ
status_of (File fault) = status_of_file fault
status_of (Script (script.BadLine n)) = 1
status_of (Script script.Read) = 4
status_of (Script script.Write) = 4
status_of (Script script.Memory) = 4
