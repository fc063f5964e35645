-- Text in pieces.
use Rattle.std.specs.Prelude.{ℕ, List}
use Rattle.std.specs.List.{flat_map}
use Rattle.std.specs.Fmt.{decimal, signed_decimal}
use Rattle.drawings.specs.declared.pieces.Piece.{Piece}
use Rattle.drawings.specs.declared.pieces.Piece.TheVariants.{Text, Number, Signed}

-- a text as it is, a number in decimal
abbrev pub piece_text : Piece → List ℕ
piece_text (Text text) = text.now
piece_text (Number n) = decimal n
piece_text (Signed z) = signed_decimal z

-- texts, one behind the other
abbrev pub joined : List (List ℕ) → List ℕ
joined texts = flat_map (λ text. text) texts
