-- How refusals print: their number, their name, and what the name alone does not say.
use Rattle.std.specs.Prelude.{ℕ, List, ◌++◌, codes}
use Rattle.std.specs.List.{flat_map}
use Rattle.std.specs.Fmt.{decimal, signed_decimal}
use Rattle.refusal_codes.specs.declared.text.TextPart.{TextPart}
use Rattle.refusal_codes.specs.declared.text.TextPart.TheVariants as part
use Rattle.refusal_codes.specs.declared.text.RefusalText.{RefusalText}

-- the number of a refusal, and its name
abbrev pub head : ℕ × List ℕ → List ℕ
head row = decimal row.0 ++ codes " " ++ row.1

-- the text of a part, and of all parts one behind the other
abbrev pub part_text : TextPart → List ℕ
part_text (part.Text text) = text.now
part_text (part.Number n) = decimal n
part_text (part.Signed x) = signed_decimal x

abbrev pub refusal_text : RefusalText → List ℕ
refusal_text text = flat_map part_text text.parts
