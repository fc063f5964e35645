-- Blocks and connections as Mermaid reads them. A block goes by its number, since not every name may stand there, and
-- is labelled with its name.
use Rattle.std.specs.Prelude.{ℕ, List, [], ◌∷◌, codes}
use Rattle.std.specs.Fmt.{decimal}
use Rattle.drawings.specs.Parts.{Box, Arrow}
use Rattle.drawings.specs.Pieces.{joined}
use Rattle.drawings.specs.Words.{lines_text, type_text, colour}

-- block n
abbrev pub block_text : ℕ → Box → List ℕ
block_text n b = joined (codes "  b" ∷ decimal n ∷ codes "[\"" ∷ lines_text (codes "<br/>") b ∷ codes "\"]\n" ∷ [])

-- connection n, with its ports, type and capacity, and then its colour
abbrev pub connection_text : ℕ → Arrow → List ℕ
connection_text n a =
    joined (
    codes "  b" ∷ decimal a.from.block ∷ codes " -->|\"" ∷ decimal a.from.port ∷ codes " to " ∷ decimal a.to.port
    ∷ codes ": " ∷ type_text a.item ∷ codes " " ∷ decimal a.capacity ∷ codes "\"| b" ∷ decimal a.to.block
    ∷ codes "\n  linkStyle " ∷ decimal n ∷ codes " stroke:" ∷ colour a.item ∷ codes "\n" ∷ [])
