-- The fields of a line, and the parts of a field.
use Rattle.std.specs.Prelude.{ℕ, List, [], ◌∷◌, Bool, true, false, ◌==◌, filter, if◌then◌else◌, Option, Some, None}
use Rattle.std.specs.Option.{option_map}
use Rattle.script_text.specs.Lines.{onto_first}

abbrev pub space : ℕ
space = 32

-- what stands between the spaces: between two spaces next to each other there is nothing
abbrev pub parts_of : List ℕ → List (List ℕ)
parts_of [] = [] ∷ []
parts_of (b ∷ bs) = if b == space then [] ∷ parts_of bs else onto_first b (parts_of bs)

abbrev pub is_filled : List ℕ → Bool
is_filled [] = false
is_filled (b ∷ bs) = true

-- the fields, which one or more spaces separate; spaces before the first and after the last separate nothing
abbrev pub fields_of : List ℕ → List (List ℕ)
fields_of line = filter is_filled (parts_of line)

-- what stands before the first byte c, and what after it
abbrev pub cut_at : ℕ → List ℕ → Option (List ℕ × List ℕ)
cut_at c [] = None
cut_at c (b ∷ bs) = if b == c then Some ([], bs) else option_map (λ cut. (b ∷ cut.0, cut.1)) (cut_at c bs)
