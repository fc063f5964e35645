-- What the lines of a script say, one after another.
use Rattle.std.specs.Prelude.{◌≡◌, ◌≤◌, ℕ, suc, List, ◌∷◌, ◌++◌, Option, Some, None}
use Rattle.script_text.specs.Lines.{lines_of, most_lines}
use Rattle.script_text.specs.Splits.{Split, IsUnfinished, KeepsBytes}
use Rattle.script_text.specs.Grammar.{Parsed, Nothing, Bad, Says, SaysList, parsed_from}

-- what the lines say that were not taken yet, where more bytes come behind those that are left
abbrev pub said_of : Split → List ℕ → List Parsed
said_of s more = parsed_from (suc s.taken) (lines_of (s.rest ++ more))

-- the next line says this, and the lines behind it are those that are left; it was counted, and there are not too many
-- yet
pub record GoesOn (said : Parsed) (old new : Split) : Type 0 where
  pub says : (more : List ℕ) → said_of old more ≡ said ∷ said_of new more
  pub counted : new.taken ≤ most_lines
  pub following : new.taken ≡ suc old.taken

-- the same, but nothing is known of the lines behind a bad one
abbrev pub SaysNext : Parsed → Split → Split → Type 0
SaysNext Nothing old new = GoesOn Nothing old new
SaysNext Bad old new = (more : List ℕ) → (later : List Parsed) × (said_of old more ≡ Bad ∷ later)
SaysNext (Says c) old new = GoesOn (Says c) old new

-- the end of the next line has come, and it says this; or it has not
abbrev pub Continues : Option Parsed → Split → Split → Type 0
Continues (Some said) old new = SaysNext said old new
Continues None old new = IsUnfinished new.rest × KeepsBytes old new

-- the next line says a command with numbers or marks, whatever comes behind it
abbrev pub StopsAtList : Split → Type 0
StopsAtList old = (said : Parsed) × SaysList said × ((more : List ℕ) → (later : List Parsed)
    × (said_of old more ≡ said ∷ later))
