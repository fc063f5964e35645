-- What a write that fails in the middle leaves.
use Rattle.std.specs.Prelude.{ℕ, ◌≤◌, List, length, take, Option}
use Rattle.std.specs.Io.KnownBytes.{Appends}

-- the known bytes grew by a beginning of the piece
abbrev pub AppendsBeginning : Option (List ℕ) → Option (List ℕ) → List ℕ → Type 0
AppendsBeginning old new piece = (n : ℕ) × (n ≤ length piece) × Appends old new (take n piece)
