-- Blocks and connections as Graphviz's `dot` reads them. Names of blocks have letters, digits, `_`, `.` and `-` alone,
-- none of which means anything in a quoted name or in a record.
use Rattle.std.specs.Prelude.{ℕ, List, [], ◌∷◌, ◌++◌, ◌==◌, codes, if◌then◌else◌}
use Rattle.std.specs.List.{flat_map}
use Rattle.std.specs.Fmt.{decimal}
use Rattle.stream_model.specs.Lists.{below}
use Rattle.drawings.specs.Parts.{Box, Arrow}
use Rattle.drawings.specs.Pieces.{joined}
use Rattle.drawings.specs.Words.{lines_text, type_text, colour}

-- a port as a field with a name, i0 or o0, and its number. The first opens the column of its side, and the others are
-- parted from the one before
abbrev pub port_text : List ℕ → ℕ → List ℕ
port_text side p = joined ((if p == 0 then codes "{<" else codes "|<") ∷ side ∷ decimal p ∷ codes "> " ∷ decimal p ∷ [])

-- the column of so many ports
abbrev pub ports_text : List ℕ → ℕ → List ℕ
ports_text side count = flat_map (port_text side) (below count) ++ codes "}"

-- the column of the inputs, and what parts it from the lines; without inputs there is none
abbrev pub inputs_text : ℕ → List ℕ
inputs_text count = if count == 0 then [] else ports_text (codes "i") count ++ codes "|"

-- the same of the outputs
abbrev pub outputs_text : ℕ → List ℕ
outputs_text count = if count == 0 then [] else codes "|" ++ ports_text (codes "o") count

-- the columns of a record: inputs, lines, outputs
abbrev pub label_text : Box → List ℕ
label_text b = inputs_text b.inputs ++ lines_text (codes "\\n") b ++ outputs_text b.outputs

-- a block as a record under its name
abbrev pub block_text : Box → List ℕ
block_text b = joined (codes "  \"" ∷ b.name ∷ codes "\" [label=\"{" ∷ label_text b ∷ codes "}\"];\n" ∷ [])

-- a connection from port to port, with type and capacity, in the colour of its type
abbrev pub connection_text : Arrow → List ℕ
connection_text a =
    joined (
    codes "  \"" ∷ a.from.name ∷ codes "\":o" ∷ decimal a.from.port ∷ codes ":e -> \"" ∷ a.to.name ∷ codes
    "\":i" ∷ decimal a.to.port
    ∷ codes ":w [label=\"" ∷ type_text a.item ∷ codes " " ∷ decimal a.capacity ∷ codes "\", color=\"" ∷ colour
    a.item ∷ codes "\"];\n" ∷ [])
