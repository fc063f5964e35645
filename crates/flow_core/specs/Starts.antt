-- What the program says where it begins no command.
use Rattle.std.specs.Prelude.{ℕ, List, [], codes, Bool, true, false}
use Rattle.std_io.specs.declared.io.kind.ErrorKind.{ErrorKind}
use Rattle.std_io.specs.declared.io.kind.ErrorKind.TheVariants as kind
use Rattle.script_text.specs.Replies.{line_text}
use Rattle.flow_core.specs.Faults.{fault_line, status_of}
use Rattle.flow_core.specs.declared.fault.Fault.TheVariants.{Script}
use Rattle.flow_core.specs.declared.script.ScriptFault.TheVariants as script
use Rattle.flow_core.specs.declared.start_fault.StartFault.{StartFault}
use Rattle.flow_core.specs.declared.start_fault.StartFault.TheVariants.{NoText, BadWords, NoFile, NoTrace, NoOutput, Memory}

-- a word that is no UTF-8 is reported; otherwise only memory can run out
abbrev pub words_fault : ErrorKind → StartFault
words_fault kind.InvalidData = NoText
words_fault _ = Memory

-- words that say nothing that the program does, where memory did not run out
abbrev pub call_fault : Bool → StartFault
call_fault true = Memory
call_fault false = BadWords

-- a file that could not be read, where memory did not run out
abbrev pub file_fault : ErrorKind → StartFault
file_fault kind.OutOfMemory = Memory
file_fault _ = NoFile

-- the file of a trace that could not be made, where memory did not run out
abbrev pub trace_fault : ErrorKind → StartFault
trace_fault kind.OutOfMemory = Memory
trace_fault _ = NoTrace

-- memory, a file and standard output are reported as they are of a command; the text of bad words comes from what reads
-- them
abbrev pub start_text : StartFault → List ℕ
start_text NoText = line_text (codes "error: a word is no UTF-8")
start_text BadWords = []
start_text NoFile = fault_line [] (Script script.Read)
start_text NoTrace = line_text (codes "flow: refused 52 Write trace")
start_text NoOutput = fault_line [] (Script script.Write)
start_text Memory = fault_line [] (Script script.Memory)

-- the exit status: 2 for words
abbrev pub start_status : StartFault → ℕ
start_status NoText = 2
start_status BadWords = 2
start_status NoFile = status_of (Script script.Read)
start_status NoTrace = status_of (Script script.Write)
start_status NoOutput = status_of (Script script.Write)
start_status Memory = status_of (Script script.Memory)
