-- Marks that come as the lines of a reader.
use Rattle.std.specs.Prelude.{ℕ, ◌≡◌, ◌≤◌, List, [], ◌∷◌, ◌++◌, length, Bool, true, false, map, ⊤, Option, Some, None, IsSome}
use Rattle.std.specs.Io.KnownBytes.{Consumes, IsAtEnd}
use Rattle.stream_model.specs.Tags.{Mark, Tag}
use Rattle.stream_model.specs.Machine.{tag_of}
use Rattle.pipeline.specs.declared.part.TapePart.{TapePart}
use Rattle.pipeline.specs.MarkLines.{Saying, item_of, marks_among, saying_held, sayings_of}
use Rattle.pipeline.specs.Parts.{marks_behind}

-- a reader of marks: whether a read of it failed, what was read of which no line was taken, how many lines with a line
-- feed were taken, the mark that was read and not given yet, whether the reader has no more, the number of the line
-- that was taken last, and its item on the whole tape, of which the source is fed this part
pub record Marking (R : Type 0) : Type 0 where
  pub reader : R
  pub has_failed : Bool
  pub rest : List ℕ
  pub taken : ℕ
  pub held : Option Mark
  pub is_over : Bool
  pub line : ℕ
  pub least : ℕ
  pub part : TapePart

-- a reader of which nothing was read
abbrev pub unread : {R : Type 0} → TapePart → R → Marking R
unread part reader = record {
  reader = reader;
  has_failed = false;
  rest = [];
  taken = 0;
  held = None;
  is_over = false;
  line = 0;
  least = 0;
  part = part;
}

-- sayings in the order of their items, of which the first is not before item n
abbrev pub Rise : ℕ → List Saying → Type 0
Rise n [] = ⊤
Rise n (said ∷ more) = (n ≤ item_of said) × Rise (item_of said) more

-- the item of the last of them, or n where there is none
abbrev pub last_item : ℕ → List Saying → ℕ
last_item n [] = n
last_item n (said ∷ more) = last_item (item_of said) more

-- sayings in the order of their items, of which the last is of item n, which is 0 where there is none
abbrev pub RiseTo : ℕ → List Saying → Type 0
RiseTo n sayings = Rise 0 sayings × (n ≡ last_item 0 sayings)

-- a saying, where there is one, is not before item n, and its item is k
abbrev pub Follows : ℕ → Option Saying → ℕ → Type 0
Follows n None k = k ≡ n
Follows n (Some said) k = (n ≤ item_of said) × (k ≡ item_of said)

-- of these bytes, all that the reader gave, the lines say first what stands above: the marks there were given on or
-- passed over, and no others. Then comes the mark that is held, and the rest is behind it: whatever bytes follow, of
-- which there are none where the reader has no more. The lines are in the order of their items, and counted
pub record HasTold {R : Type 0} (remaining : R → Option (List ℕ)) (m : Marking R) (bytes : List ℕ) (given : List Mark) :
    Type 0 where
  pub above : List Saying
  pub marks : marks_among above ≡ given
  pub lines : (more : List ℕ) → (m.is_over ≡ true → more ≡ []) → sayings_of (bytes ++ more)
      ≡ map Some (above ++ saying_held m.held) ++ sayings_of (m.rest ++ more)
  pub at_end : m.is_over ≡ true → IsAtEnd (remaining m.reader)
  pub rise : RiseTo m.least (above ++ saying_held m.held)
  pub counted : m.is_over ≡ false → m.taken ≡ length (above ++ saying_held m.held)
  pub numbered : IsSome m.held → m.line ≡ length (above ++ saying_held m.held)

-- the reader was read, and gave on these marks, or passed them over
pub record Gives {R : Type 0} (remaining : R → Option (List ℕ)) (old new : Marking R) (marks : List Mark) : Type 0 where
  pub bytes : List ℕ
  pub read : Consumes (remaining old.reader) (remaining new.reader) bytes
  pub told : (before : List ℕ) (given : List Mark) → HasTold remaining old before given
      → HasTold remaining new (before ++ bytes) (given ++ marks)
  pub over : old.is_over ≡ true → bytes ≡ []
  pub stays_over : old.is_over ≡ true → new.is_over ≡ true
  pub part : new.part ≡ old.part

-- the reader was read, and which marks came of that is not told
pub record IsRead {R : Type 0} (remaining : R → Option (List ℕ)) (old new : Marking R) : Type 0 where
  pub bytes : List ℕ
  pub read : Consumes (remaining old.reader) (remaining new.reader) bytes
  pub over : old.is_over ≡ true → bytes ≡ []

-- it gave on marks to the end of a list: those on items of the part, by their numbers there
abbrev pub GivesTo : {R : Type 0} → (R → Option (List ℕ)) → (old new : Marking R) → (before after : List Mark) → Type 0
GivesTo remaining old new before after = (marks : List Mark) × Gives remaining old new marks
    × (after ≡ before ++ marks_behind old.part.origin marks)

-- it has no more, and no mark is left
pub record IsOver {R : Type 0} (m : Marking R) : Type 0 where
  pub is_over : m.is_over ≡ true
  pub held : m.held ≡ None
  pub rest : m.rest ≡ []

-- the same where a source may have no marks: what was read of their reader
abbrev pub ReadsMarks : {R : Type 0} → (R → Option (List ℕ)) → Option (Marking R) → Option (Marking R) → List ℕ → Type 0
ReadsMarks remaining None None bytes = ⊤
ReadsMarks remaining (Some m) (Some m') bytes = Consumes (remaining m.reader) (remaining m'.reader) bytes
ReadsMarks remaining None (Some m') bytes = ⊥
ReadsMarks remaining (Some m) None bytes = ⊥

-- the tags of source b are those that it had at the start, and behind them the marks that the reader gave on of these
-- bytes: those on items of the part, by their numbers there
abbrev pub AreTold : {R : Type 0} → (R → Option (List ℕ)) → ℕ → Option (Marking R) → List ℕ → List Tag → List Tag
    → Type 0
AreTold remaining b None bytes start out = out ≡ start
AreTold remaining b (Some m) bytes start out = (given : List Mark) × HasTold remaining m bytes given
    × (out ≡ start ++ map (tag_of b) (marks_behind m.part.origin given))

-- whether a read of the reader of marks failed
abbrev pub have_failed : {R : Type 0} → Option (Marking R) → Bool
have_failed None = false
have_failed (Some m) = m.has_failed

-- no mark is left, where the part is the end of its tape
abbrev pub AreOver : {R : Type 0} → Option (Marking R) → Type 0
AreOver None = ⊤
AreOver (Some m) = m.part.goes_on ≡ false → IsOver m

-- where there is a reader of marks, it gave on these
abbrev pub FindsMarks : {R : Type 0} → (R → Option (List ℕ)) → Option (Marking R) → Option (Marking R) → List Mark
    → Type 0
FindsMarks remaining None None marks = marks ≡ []
FindsMarks remaining (Some m) (Some m') marks = GivesTo remaining m m' [] marks
FindsMarks remaining None (Some m') marks = ⊥
FindsMarks remaining (Some m) None marks = ⊥

-- it was read, and which marks came of that is not told
abbrev pub AreRead : {R : Type 0} → (R → Option (List ℕ)) → Option (Marking R) → Option (Marking R) → Type 0
AreRead remaining None None = ⊤
AreRead remaining (Some m) (Some m') = IsRead remaining m m'
AreRead remaining None (Some m') = ⊥
AreRead remaining (Some m) None = ⊥
