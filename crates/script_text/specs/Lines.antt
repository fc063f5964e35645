-- The lines of a list of bytes. A line ends with a line feed, with a carriage return right before one, or with the
-- bytes themselves. Nothing after the last line feed is no line, and a carriage return that only the end of the bytes
-- follows is part of its line.
use Rattle.std.specs.Prelude.{ℕ, List, [], ◌∷◌, Bool, false, ◌&&◌, ◌==◌, if◌then◌else◌}

abbrev pub line_feed : ℕ
line_feed = 10

abbrev pub carriage_return : ℕ
carriage_return = 13

-- how many bytes a line may have, without what ends it
abbrev pub longest_line : ℕ
longest_line = 65536

-- how many lines there may be
abbrev pub most_lines : ℕ
most_lines = 4294967295

-- the lines, where b goes before the first of them
abbrev pub onto_first : ℕ → List (List ℕ) → List (List ℕ)
onto_first b [] = (b ∷ []) ∷ []
onto_first b (line ∷ lines) = (b ∷ line) ∷ lines

abbrev pub begins_with : ℕ → List ℕ → Bool
begins_with c [] = false
begins_with c (b ∷ bs) = b == c

-- the lines of the bytes
abbrev pub lines_of : List ℕ → List (List ℕ)
lines_of [] = []
lines_of (b ∷ bs) =
    if b == line_feed then [] ∷ lines_of bs
    else (if b == carriage_return && begins_with line_feed bs then lines_of bs
    else onto_first b (lines_of bs))

-- bytes without a carriage return at their end: what a line feed after them makes the line
abbrev pub without_return : List ℕ → List ℕ
without_return [] = []
without_return (b ∷ []) = if b == carriage_return then [] else b ∷ []
without_return (b ∷ c ∷ bs) = b ∷ without_return (c ∷ bs)
