-- What every format says of blocks and types.
use Rattle.std.specs.Prelude.{ℕ, List, [], ◌∷◌, ◌++◌, Option, Some, None, codes}
use Rattle.std.specs.Fmt.{decimal, signed_decimal}
use Rattle.stream_model.specs.declared.vocabulary.ItemType.{ItemType}
use Rattle.stream_model.specs.declared.vocabulary.ItemType.TheVariants.{Byte, Short, Int}
use Rattle.drawings.specs.declared.parts.Note.{Note}
use Rattle.drawings.specs.declared.parts.Note.TheVariants.{Nothing, Value, Taps, Count}
use Rattle.drawings.specs.Parts.{Box}
use Rattle.drawings.specs.Pieces.{joined}

-- how often a block fires in an iteration, on a line of its own behind the end of the last
abbrev pub firings_text : List ℕ → Option ℕ → List ℕ
firings_text line_end None = []
firings_text line_end (Some count) = joined (line_end ∷ codes "q " ∷ decimal count ∷ [])

-- what is noted of a block, on a line of its own: the value that a setting replaces, how many taps it has, or its `n`
abbrev pub note_text : List ℕ → Note → List ℕ
note_text line_end Nothing = []
note_text line_end (Value v) = joined (line_end ∷ codes "value " ∷ signed_decimal v ∷ [] ∷ [])
note_text line_end (Taps n) = joined (line_end ∷ [] ∷ decimal n ∷ codes " taps" ∷ [])
note_text line_end (Count n) = joined (line_end ∷ codes "n " ∷ decimal n ∷ [] ∷ [])

-- the lines in the middle of a block: its name, its kind, what is noted of it, and how often it fires
abbrev pub lines_text : List ℕ → Box → List ℕ
lines_text line_end b = joined (b.name ∷ line_end ∷ b.kind ∷ []) ++ note_text line_end b.note
    ++ firings_text line_end b.firings

-- the name of a type
abbrev pub type_text : ItemType → List ℕ
type_text Byte = codes "byte"
type_text Short = codes "short"
type_text Int = codes "int"

-- its colour: purple, yellow or green, as in GNU Radio Companion, but the yellow dark enough for a line on white
abbrev pub colour : ItemType → List ℕ
colour Byte = codes "#9C27B0"
colour Short = codes "#C8A000"
colour Int = codes "#009688"
