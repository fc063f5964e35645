-- What a splitter of bytes into lines holds, and what taking a line from it does.
use Rattle.std.specs.Prelude.{◌≡◌, ◌≢◌, ℕ, suc, ◌<◌, ◌≤◌, List, ◌∷◌, ◌++◌, length, slice_index, EachIndex}
use Rattle.script_text.specs.Lines.{line_feed, longest_line, lines_of, without_return}
use Rattle.script_text.specs.declared.splitter.FirstLine.{FirstLine}
use Rattle.script_text.specs.declared.splitter.FirstLine.TheVariants.{Whole, TooLong, Unfinished}

-- the bytes that no line was taken of yet, the line that was taken last, and how many were taken
pub record Split : Type 0 where
  pub rest : List ℕ
  pub line : List ℕ
  pub taken : ℕ

-- so many bytes are held at most, those of lines that were taken with them
abbrev pub most_held : ℕ
most_held = 196608

-- the first line of the bytes is longer than a line may be
abbrev pub StartsTooLong : List ℕ → Type 0
StartsTooLong bytes = (line : List ℕ) × (lines : List (List ℕ)) × (lines_of bytes ≡ line ∷ lines)
    × (longest_line < length line)

-- less than a line whose end is known: no line feed, and not too long yet
pub record IsUnfinished (bytes : List ℕ) : Type 0 where
  pub no_end : EachIndex bytes (λ k. slice_index bytes k ≢ line_feed)
  pub short : length (without_return bytes) ≤ longest_line

-- a line was taken off the front: whatever comes after the bytes, it is the first line of all of them
pub record TakesLine (old new : Split) : Type 0 where
  pub first : (more : List ℕ) → lines_of (old.rest ++ more) ≡ new.line ∷ lines_of (new.rest ++ more)
  pub counted : new.taken ≡ suc old.taken

-- no line was taken: the bytes, the line that was taken last and the count stay as they were
pub record KeepsBytes (old new : Split) : Type 0 where
  pub rest : new.rest ≡ old.rest
  pub line : new.line ≡ old.line
  pub taken : new.taken ≡ old.taken

abbrev pub Takes : FirstLine → Split → Split → Type 0
Takes Whole old new = TakesLine old new
Takes TooLong old new = ((more : List ℕ) → StartsTooLong (old.rest ++ more)) × KeepsBytes old new
Takes Unfinished old new = IsUnfinished old.rest × KeepsBytes old new
