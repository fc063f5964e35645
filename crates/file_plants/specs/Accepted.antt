-- Which graph files are accepted.
use Rattle.std.specs.Prelude.{ℕ, List, IsUtf8, IsOk}
use Rattle.toml.specs.Parse.{parse_document}
use Rattle.graph_file.specs.declared.fault.FileFault.{FileFault}
use Rattle.graph_file.specs.Refusals.{IsRefused}
use Rattle.graph_file.specs.Steps.{then}
use Rattle.graph_file.specs.File.{file_of}
use Rattle.file_plants.specs.Opening.{opened}
use Rattle.graph_file.specs.Validity.{validated}
use Rattle.file_plants.specs.declared.accepted.Depth.{Depth}
use Rattle.file_plants.specs.declared.accepted.Depth.TheVariants.{Graph, Plant}

-- the file is taken: its graph is valid, and where its plant is asked for, its feeds go onto the tapes
abbrev pub IsAccepted : Depth → List ℕ → Type 0
IsAccepted Graph text = IsUtf8 text × IsOk ((then) (file_of (parse_document text)) (λ c. validated c.graph))
IsAccepted Plant text = IsUtf8 text × IsOk ((then) (file_of (parse_document text)) opened)

-- the fault reports what such a file is refused for first
abbrev pub IsWhy : Depth → List ℕ → FileFault → Type 0
IsWhy Graph text fault = IsUtf8 text → IsRefused ((then) (file_of (parse_document text)) (λ c. validated c.graph)) fault
IsWhy Plant text fault = IsUtf8 text → IsRefused ((then) (file_of (parse_document text)) opened) fault
