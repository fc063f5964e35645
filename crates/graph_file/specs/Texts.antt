-- How the refusals of a graph file print: their number, their name, and what the name alone does not say.
use Rattle.std.specs.Prelude.{ℕ, ℤ, List, [], ◌++◌, length, ◌==◌, if◌then◌else◌, codes}
use Rattle.std.specs.Fmt.{decimal, signed_decimal}
use Rattle.flowgraph.specs.declared.fault.GraphFault.{GraphFault}
use Rattle.flowgraph.specs.declared.fault.GraphFault.TheVariants as graph
use Rattle.flowgraph.specs.declared.fault.Side.{Side}
use Rattle.flowgraph.specs.Fault.{side_text, limit_text, option_text}
use Rattle.kind_schema.specs.declared.fault.KeyFault.{KeyFault}
use Rattle.kind_schema.specs.declared.fault.KeyFault.TheVariants as key
use Rattle.block_parameters.specs.Fault.{parameter_text}
use Rattle.kind_schema.specs.Keys.{text_of}
use Rattle.graph_file.specs.declared.fault.FilePlace.{FilePlace}
use Rattle.graph_file.specs.declared.fault.FilePlace.TheVariants.{Top, Block, Connect, Feed}
use Rattle.graph_file.specs.declared.fault.FileFault.{FileFault}
use Rattle.graph_file.specs.declared.fault.FileFault.TheVariants as file
use Rattle.refusal_codes.specs.Texts.{head}
use Rattle.graph_file.specs.Refusals.{row_of}

-- the words for places
abbrev pub place_text : FilePlace → List ℕ
place_text Top = codes "top"
place_text (Block n) = codes "block " ++ decimal n
place_text (Connect n) = codes "connect " ++ decimal n
place_text (Feed n) = codes "feed " ++ decimal n

-- what is said behind the name: of what is wrong with the table of a place
abbrev pub table_rest : FilePlace → KeyFault → List ℕ
table_rest place key.UnknownKey = codes " " ++ place_text place
table_rest place (key.MissingKey k) = codes " " ++ place_text place ++ codes " " ++ text_of k
table_rest place (key.WrongType k) = codes " " ++ place_text place ++ codes " " ++ text_of k
table_rest place key.UnknownKind = codes " " ++ place_text place
table_rest place (key.BadParameter p) = codes " " ++ place_text place ++ codes " " ++ parameter_text p
table_rest place key.Memory = []

-- of why the graph is refused at a place, where a block of this name is named
abbrev pub graph_rest : FilePlace → GraphFault → List ℕ → List ℕ
graph_rest place graph.DuplicateName name = codes " " ++ name
graph_rest place graph.UnknownBlock name = codes " " ++ place_text place
graph_rest place (graph.PortRange b side p) name = codes " " ++ name ++ codes " " ++ side_text side ++ codes " "
    ++ decimal p
graph_rest place (graph.InputTaken b p) name = codes " " ++ name ++ codes " " ++ decimal p
graph_rest place (graph.PortGap b side p) name = codes " " ++ name ++ codes " " ++ side_text side ++ codes " "
    ++ decimal p
graph_rest place (graph.TypeMismatch b p) name = codes " " ++ name ++ codes " " ++ decimal p
graph_rest place (graph.Loop b) name = codes " " ++ name
graph_rest place (graph.TooFewPorts b) name = codes " " ++ name
graph_rest place (graph.TooLarge limit) name = codes " " ++ limit_text limit
graph_rest place (graph.BadParameter option) name = codes " " ++ place_text place ++ codes " " ++ option_text option
graph_rest place (graph.OneToOne b) name = codes " " ++ name
graph_rest place (graph.Gain b) name = codes " " ++ name
graph_rest place graph.Memory name = []

-- what an end of a connection is called: by the name of its block, or by the place of the table where it has none
abbrev pub end_text : FilePlace → List ℕ → List ℕ
end_text place name = if length name == 0 then place_text place else name

-- of a port of that end that is negative
abbrev pub negative_rest : FilePlace → List ℕ → Side → ℤ → List ℕ
negative_rest place name side port = codes " " ++ end_text place name ++ codes " " ++ side_text side ++ codes " "
    ++ signed_decimal port

-- of a fault
abbrev pub rest_of : FileFault → List ℕ
rest_of file.Syntax = []
rest_of (file.Table place fault) = table_rest place fault
rest_of (file.Graph place fault name) = graph_rest place fault name.bytes
rest_of (file.NegativePort place name side port) = negative_rest place name.bytes side port
rest_of (file.Feed n fault) = codes " feed " ++ decimal n
rest_of file.Memory = []

-- what a fault prints
abbrev pub fault_text : FileFault → List ℕ
fault_text fault = head (row_of fault) ++ rest_of fault
