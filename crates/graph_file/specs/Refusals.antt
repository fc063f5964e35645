-- Why a graph file is refused.
use Rattle.std.specs.Prelude.{◌≡◌, ℕ, ℤ, List, [], length, nat_le, if◌then◌else◌, Option, Some, None, Result, Err, codes}
use Rattle.graph_model.specs.Graphs.{is_name}
use Rattle.flowgraph.specs.declared.fault.GraphFault as graph_fault
use Rattle.flowgraph.specs.Fault as graph_faults
use Rattle.flowgraph.specs.declared.fault.Side.{Side}
use Rattle.kind_schema.specs.declared.fault.KeyFault.{KeyFault}
use Rattle.kind_schema.specs.declared.fault.KeyFault.TheVariants as key
use Rattle.plant_faults.specs.Fault as feeds
use Rattle.kind_schema.specs.Fault as tables
use Rattle.graph_file.specs.declared.fault.FilePlace.{FilePlace}
use Rattle.graph_file.specs.declared.fault.FileFault.{FileFault}
use Rattle.graph_file.specs.declared.fault.FileFault.TheVariants as file

-- a refusal: the text is no TOML, a table at a place is wrong, a block or a connection does not go into the graph,
-- where a block of this name is named, a port of the connection at a place is negative, at the end of the block of this
-- name, or the feed of this number is refused by a number
pub data Refusal : Type 0 where
  syntax : Refusal
  at_table : FilePlace → KeyFault → Refusal
  of_graph : FilePlace → graph_fault.GraphFault → List ℕ → Refusal
  negative_port : FilePlace → List ℕ → Side → ℤ → Refusal
  of_feed : ℕ → ℕ → Refusal

-- a block's name has at most 32 bytes; a longer text is none, and is not reported
abbrev pub short : List ℕ → List ℕ
short name = if nat_le (length name) 32 then name else []

-- the text at an end of a connection, where it is a block's name; any other may hold anything, and is not reported
abbrev pub block_name : List ℕ → List ℕ
block_name text = if is_name text then text else []

-- the refusal that a fault reports; none where it is out of memory
abbrev pub told : FileFault → Option Refusal
told file.Syntax = Some syntax
told (file.Table place fault) = Some (at_table place fault)
told (file.Graph place fault name) = Some (of_graph place fault name.bytes)
told (file.NegativePort place name side port) = Some (negative_port place name.bytes side port)
told (file.Feed n fault) = Some (of_feed n (feeds.number_of fault))
told file.Memory = None

-- the refusal is the one to be reported, where one is reported
abbrev pub IsTold : {A : Type 0} → Result A Refusal → Option Refusal → Type 0
IsTold r None = Unit {0}
IsTold r (Some refusal) = r ≡ Err refusal

-- the fault reports the refusal, or out of memory
abbrev pub IsRefused : {A : Type 0} → Result A Refusal → FileFault → Type 0
IsRefused r fault = IsTold r (told fault)

-- the refusal that a fault of a table is, and a refused feed; none where it is out of memory
abbrev pub told_table : FilePlace → KeyFault → Option Refusal
told_table place key.UnknownKey = Some (at_table place key.UnknownKey)
told_table place (key.MissingKey k) = Some (at_table place (key.MissingKey k))
told_table place (key.WrongType k) = Some (at_table place (key.WrongType k))
told_table place key.UnknownKind = Some (at_table place key.UnknownKind)
told_table place (key.BadParameter p) = Some (at_table place (key.BadParameter p))
told_table place key.Memory = None

-- the number by which a fault is reported, and the name beside it
abbrev pub row_of : FileFault → ℕ × List ℕ
row_of file.Syntax = (40, codes "Syntax")
row_of (file.Table place fault) = tables.row_of fault
row_of (file.Graph place fault name) = graph_faults.row_of fault
row_of (file.NegativePort place name side port) = (3, codes "PortRange")
row_of (file.Feed n fault) = feeds.row_of fault
row_of file.Memory = (32, codes "Memory")

-- its number alone
abbrev pub number_of : FileFault → ℕ
number_of fault = (row_of fault).0
