-- How a run with raw items says why it stops.
use Rattle.std.specs.Prelude.{ℕ, List, [], ◌++◌, codes}
use Rattle.std.specs.Fmt.{decimal}
use Rattle.refusal_codes.specs.Texts.{head}
use Rattle.plant_faults.specs.declared.fault.PlantFault.TheVariants as plant
use Rattle.plant_faults.specs.Fault as plants
use Rattle.flow_core.specs.Faults.{row_of, fault_text, status_of, stop_line}
use Rattle.flow_core.specs.declared.raw_fault.EndFault.{EndFault}
use Rattle.flow_core.specs.declared.raw_fault.EndFault.TheVariants.{NoSuchBlock, NotSource, NotSink, Closed, TapeFull, Read, Write, CutItem, BadLine, TagPlace}
use Rattle.flow_core.specs.declared.raw_fault.EndPlace.{EndPlace}
use Rattle.flow_core.specs.declared.raw_fault.EndPlace.TheVariants.{Input, Output, Tags, Marks}
use Rattle.flow_core.specs.declared.raw_fault.RawFault.{RawFault}
use Rattle.flow_core.specs.declared.raw_fault.RawFault.TheVariants.{Whole, End}

-- the number and the name of what is wrong at an end: those of the plant, where it refuses the same
abbrev pub end_row : EndFault → ℕ × List ℕ
end_row NoSuchBlock = plants.row_of plant.NoSuchBlock
end_row NotSource = plants.row_of plant.NotSource
end_row NotSink = plants.row_of plant.NotSink
end_row Closed = plants.row_of plant.Closed
end_row TapeFull = plants.row_of plant.TapeFull
end_row Read = (51, codes "Read")
end_row Write = (52, codes "Write")
end_row CutItem = (53, codes "CutItem")
end_row (BadLine line) = (50, codes "BadLine")
end_row (TagPlace line) = plants.row_of plant.TagPlace

-- the words for places, between spaces
abbrev pub place_word : EndPlace → List ℕ
place_word (Input n) = codes " input "
place_word (Output n) = codes " output "
place_word (Tags n) = codes " tags "
place_word (Marks n) = codes " marks "

abbrev pub place_number : EndPlace → ℕ
place_number (Input n) = n
place_number (Output n) = n
place_number (Tags n) = n
place_number (Marks n) = n

abbrev pub place_text : EndPlace → List ℕ
place_text place = place_word place ++ decimal (place_number place)

-- the number and the name of a fault
abbrev pub raw_row : RawFault → ℕ × List ℕ
raw_row (Whole fault) = row_of fault
raw_row (End place fault) = end_row fault

-- the number of a line of marks, behind a space
abbrev pub line_text_of : EndFault → List ℕ
line_text_of (BadLine line) = codes " " ++ decimal line
line_text_of (TagPlace line) = codes " " ++ decimal line
line_text_of _ = []

-- number, name and detail of a fault
abbrev pub raw_fault_text : RawFault → List ℕ
raw_fault_text (Whole fault) = fault_text fault
raw_fault_text (End place fault) = head (end_row fault) ++ place_text place ++ line_text_of fault

-- the line that tells a fault, found in what has that name
abbrev pub raw_fault_line : List ℕ → RawFault → List ℕ
raw_fault_line name fault = stop_line (raw_fault_text fault) name

-- the exit status that it brings: 4 for devices
abbrev pub end_status_of : EndFault → ℕ
end_status_of Read = 4
end_status_of Write = 4
end_status_of NoSuchBlock = 1
end_status_of NotSource = 1
end_status_of NotSink = 1
end_status_of Closed = 1
end_status_of TapeFull = 1
end_status_of CutItem = 1
end_status_of (BadLine line) = 1
end_status_of (TagPlace line) = 1

abbrev pub raw_status_of : RawFault → ℕ
raw_status_of (Whole fault) = status_of fault
raw_status_of (End place fault) = end_status_of fault
