-- Which line of marks is refused, and why.
use Rattle.std.specs.Prelude.{ℕ, suc, ◌≡◌, ◌+◌, ◌<◌, ◌≤◌, ◌⊎◌, ⊤, List, [], ◌∷◌, ◌++◌, true, map, length, Option, Some, None}
use Rattle.std.specs.Io.KnownBytes.{Consumes, IsAtEnd}
use Rattle.stream_model.specs.Tags.{Mark}
use Rattle.pipeline.specs.declared.fault.PipelineFault.{PipelineFault}
use Rattle.pipeline.specs.declared.fault.PipelineFault.TheVariants.{BadMark, MarkPlace}
use Rattle.pipeline.specs.MarkLines.{Saying, AMark, Until, item_of, sayings_of}
use Rattle.pipeline.specs.Marks.{HasTold, Marking, Rise, last_item}

-- of these bytes, all that the reader gave, the first lines say these, in the order of their items, and the line below
-- them says this, where it says what it may: whatever bytes follow, of which there are none where the reader has no
-- more
pub record Stands {R : Type 0} (remaining : R → Option (List ℕ)) (m : Marking R) (bytes : List ℕ)
    (above : List Saying) (said : Option Saying) : Type 0 where
  pub lines : (more : List ℕ) → (m.is_over ≡ true → more ≡ []) → (below : List (Option Saying))
      × (sayings_of (bytes ++ more) ≡ map Some above ++ said ∷ below)
  pub at_end : m.is_over ≡ true → IsAtEnd (remaining m.reader)
  pub rise : Rise 0 above

-- what is wrong with a line, by what those above it say and what it says
abbrev pub Wrong : Type 1
Wrong = List Saying → Option Saying → Type 0

-- the reader was read, and of all that it gave line n, from 1, is the first that is wrong
pub record IsFirst {R : Type 0} (remaining : R → Option (List ℕ)) (old new : Marking R) (wrong : Wrong) (n : ℕ) : Type 0
  where
    pub bytes : List ℕ
    pub read : Consumes (remaining old.reader) (remaining new.reader) bytes
    pub line : (before : List ℕ) (given : List Mark) → HasTold remaining old before given →
        (above : List Saying) × (said : Option Saying) × Stands remaining new (before ++ bytes) above said
        × (n ≡ suc (length above)) × wrong above said

-- it says nothing that it may
abbrev pub IsNone : Wrong
IsNone above said = said ≡ None

-- its item is before that of the last line above it, or it is a mark on one on which none may be
abbrev pub IsOut : (Mark → Type 0) → Wrong
IsOut Barred above None = ⊥
IsOut Barred above (Some (AMark mark)) = (mark.offset < last_item 0 above) ⊎ Barred mark
IsOut Barred above (Some (Until n)) = n < last_item 0 above

-- a refusal names the first line that is wrong
abbrev pub NamesFirst : {R : Type 0} → (R → Option (List ℕ)) → (Mark → Type 0) → (old new : Marking R) → PipelineFault
    → Type 0
NamesFirst remaining Barred old new (BadMark b n) = IsFirst remaining old new IsNone n
NamesFirst remaining Barred old new (MarkPlace b n) = IsFirst remaining old new (IsOut Barred) n
NamesFirst remaining Barred old new _ = ⊤

-- its item is one of the part that is read, before item n of that
abbrev pub IsBefore : {R : Type 0} → ℕ → Marking R → Mark → Type 0
IsBefore n m mark = (m.part.origin ≤ mark.offset) × (mark.offset < m.part.origin + n)

-- its item is one from `start` to below `end`
abbrev pub IsWithin : (start end : ℕ) → Mark → Type 0
IsWithin start end mark = (start ≤ mark.offset) × (mark.offset < end)

-- behind the lines that were read no mark on an item below this one of the part comes, or where none is named, no line
abbrev pub Reaches : {R : Type 0} → Option ℕ → Marking R → Type 0
Reaches None m = m.is_over ≡ true
Reaches (Some n) m = (m.is_over ≡ true) ⊎ (m.part.origin + n ≤ m.least)

-- each mark on an item below n of the part was given on, or passed over: the one that is held is on none of these, and
-- where none is held, none comes any more
pub record IsGivenTo {R : Type 0} (n : ℕ) (m : Marking R) : Type 0 where
  pub held : (mark : Mark) → m.held ≡ Some mark → m.part.origin + n ≤ mark.offset
  pub none : m.held ≡ None → Reaches (Some n) m

-- it stays so for each item for which it was so
abbrev pub KeepsGiven : {R : Type 0} → (old new : Marking R) → Type 0
KeepsGiven old new = (n : ℕ) → IsGivenTo n old → IsGivenTo n new

-- its item is none of those up to which all marks were given on
abbrev pub IsBehind : {R : Type 0} → Marking R → Mark → Type 0
IsBehind m mark = (n : ℕ) → IsGivenTo n m → m.part.origin + n ≤ mark.offset

-- no item
abbrev pub Never : Mark → Type 0
Never mark = ⊥

-- the mark that was held is passed over, since its item is before the part that is read
pub record Passes {R : Type 0} (old new : Marking R) : Type 0 where
  pub mark : Mark
  pub held : old.held ≡ Some mark
  pub before : mark.offset < old.part.origin
  pub passed : new ≡ record old { held = None }

-- why what line n says is refused
abbrev pub Refuses : ℕ → ℕ → Option Saying → PipelineFault → Type 0
Refuses least n None (BadMark b k) = k ≡ n
Refuses least n (Some said) (MarkPlace b k) = (k ≡ n) × (item_of said < least)
Refuses least n said _ = ⊥

-- the same of a reader of marks where there is one
abbrev pub NameFirst : {R : Type 0} → (R → Option (List ℕ)) → (Marking R → Mark → Type 0)
    → (old new : Option (Marking R)) → PipelineFault → Type 0
NameFirst remaining Barred (Some m) (Some m') fault = NamesFirst remaining (Barred m) m m' fault
NameFirst remaining Barred _ _ fault = ⊤

abbrev pub AreGivenTo : {R : Type 0} → ℕ → Option (Marking R) → Type 0
AreGivenTo n None = ⊤
AreGivenTo n (Some m) = IsGivenTo n m
