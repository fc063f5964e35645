-- What a line of a script says.
use Rattle.std.specs.Prelude.{◌⊎◌, ℕ, suc, ◌<◌, ◌≤◌, ℤ, List, [], ◌∷◌, ◌==◌, nat_lt, length, if◌then◌else◌, codes, Option, Some, None}
use Rattle.std.specs.Option.{option_map}
use Rattle.std.specs.Str.{bytes_eq}
use Rattle.stream_model.specs.Tags.{Mark}
use Rattle.items.specs.Name.{name_of}
use Rattle.script_text.specs.Lines.{begins_with, longest_line, most_lines}
use Rattle.script_text.specs.Numbers.{offset_of, max_of, integer_of}
use Rattle.script_text.specs.Fields.{fields_of, cut_at}

-- a command, with the name of the block that it is for; the last two are for all blocks. A setting holds from an item
-- on; where none is given, from the first that is open
pub data Command : Type 0 where
  Feed : (name : List ℕ) → (items : List ℤ) → (marks : List Mark) → Command
  Close : (name : List ℕ) → Command
  Set : (name : List ℕ) → (at : Option ℕ) → (numbers : List ℤ) → Command
  Claim : (name : List ℕ) → (max : ℕ) → Command
  Commit : (name : List ℕ) → Command
  Abandon : (name : List ℕ) → Command
  Step : (name : List ℕ) → (max : ℕ) → Command
  Read : (name : List ℕ) → (from max : ℕ) → Command
  Why : (name : List ℕ) → Command
  Quiet : Command
  Settle : Command

-- what a line says: nothing, nothing that a line may say, or a command
pub data Parsed : Type 0 where
  Nothing : Parsed
  Bad : Parsed
  Says : Command → Parsed

-- a command that a plant can be asked: a claim and a step are of one firing or more, and of no more than 32 bits count
abbrev pub IsAskable : Command → Type 0
IsAskable (Feed name items marks) = Unit {0}
IsAskable (Close name) = Unit {0}
IsAskable (Set name at numbers) = Unit {0}
IsAskable (Claim name max) = (1 ≤ max) × (max ≤ 4294967295)
IsAskable (Commit name) = Unit {0}
IsAskable (Abandon name) = Unit {0}
IsAskable (Step name max) = (1 ≤ max) × (max ≤ 4294967295)
IsAskable (Read name from max) = Unit {0}
IsAskable (Why name) = Unit {0}
IsAskable Quiet = Unit {0}
IsAskable Settle = Unit {0}

-- the command, if there is one, can be asked
abbrev pub SaysAskable : Parsed → Type 0
SaysAskable Nothing = Unit {0}
SaysAskable Bad = Unit {0}
SaysAskable (Says c) = IsAskable c

-- a command with numbers or marks, for which memory is asked as it is read
abbrev pub HasList : Command → Type 0
HasList (Feed name items marks) = (0 < length items) ⊎ (0 < length marks)
HasList (Close name) = ⊥
HasList (Set name at numbers) = Unit {0}
HasList (Claim name max) = ⊥
HasList (Commit name) = ⊥
HasList (Abandon name) = ⊥
HasList (Step name max) = ⊥
HasList (Read name from max) = ⊥
HasList (Why name) = ⊥
HasList Quiet = ⊥
HasList Settle = ⊥

-- the line says such a command: on no other is memory asked for, and so on none that is bad
abbrev pub SaysList : Parsed → Type 0
SaysList Nothing = ⊥
SaysList Bad = ⊥
SaysList (Says c) = HasList c

infixl 10 ◌>>=◌
abbrev pub ◌>>=◌ : {A B : Type 0} → Option A → (A → Option B) → Option B
None >>= f = None
(Some x) >>= f = f x

abbrev pub number_sign : ℕ
number_sign = 35

abbrev pub colon : ℕ
colon = 58

abbrev pub equals_sign : ℕ
equals_sign = 61

abbrev pub at_sign : ℕ
at_sign = 64

-- the name of a block
abbrev pub block_of : List ℕ → Option (List ℕ)
block_of bytes = name_of 32 bytes

abbrev pub mark_at : ℕ → List ℕ → Option ℤ → Option Mark
mark_at offset key None = None
mark_at offset key (Some value) = Some (record { offset = offset; key = key; value = value })

-- a mark, spelled @OFFSET:KEY=VALUE; here without the sign in front
abbrev pub mark_parts : List ℕ → List ℕ → List ℕ → Option Mark
mark_parts offset key value = do
  n ← offset_of offset
  k ← name_of 16 key
  mark_at n k (integer_of value)

abbrev pub mark_behind_sign : List ℕ → Option Mark
mark_behind_sign bytes = do
  placed ← cut_at colon bytes
  named ← cut_at equals_sign placed.1
  mark_parts placed.0 named.0 named.1

abbrev pub mark_of : List ℕ → Option Mark
mark_of [] = None
mark_of (b ∷ bs) = if b == at_sign then mark_behind_sign bs else None

-- fields that are marks, all of them
abbrev pub marks_of : List (List ℕ) → Option (List Mark)
marks_of [] = Some []
marks_of (field ∷ fields) = do
  m ← mark_of field
  ms ← marks_of fields
  Some (m ∷ ms)

abbrev pub with_items : List ℤ → Option (List Mark) → Option (List ℤ × List Mark)
with_items xs None = None
with_items xs (Some ms) = Some (xs, ms)

-- items, none or more, and then marks, none or more: the marks begin at the first field with their sign
abbrev pub given_of : List (List ℕ) → Option (List ℤ × List Mark)
given_of [] = Some ([], [])
given_of (field ∷ fields) =
    if begins_with at_sign field then with_items [] (marks_of (field ∷ fields))
    else integer_of field >>= (λ x. given_of fields >>= (λ rest. Some (x ∷ rest.0, rest.1)))

-- a name and nothing more
abbrev pub name_alone : List (List ℕ) → Option (List ℕ)
name_alone [] = None
name_alone (name ∷ []) = block_of name
name_alone (name ∷ other ∷ fields) = None

-- two fields and nothing more
abbrev pub only_two : List (List ℕ) → Option (List ℕ × List ℕ)
only_two (first ∷ second ∷ []) = Some (first, second)
only_two _ = None

-- a name, how many at most, and nothing more
abbrev pub name_and_max : List (List ℕ) → Option (List ℕ × ℕ)
name_and_max fields = do
  two ← only_two fields
  b ← block_of two.0
  n ← max_of two.1
  Some (b, n)

-- where a setting begins to hold: `now`, or the number of an item
abbrev pub place_of : List ℕ → Option (Option ℕ)
place_of field = if bytes_eq field (codes "now") then Some None else option_map Some (offset_of field)

-- fields that are signed numbers, all of them
abbrev pub integers_of : List (List ℕ) → Option (List ℤ)
integers_of [] = Some []
integers_of (field ∷ fields) = do
  x ← integer_of field
  xs ← integers_of fields
  Some (x ∷ xs)

-- what the fields behind the first say. A setting has one number or more
abbrev pub feed_of : List (List ℕ) → Option Command
feed_of [] = None
feed_of (name ∷ fields) = do
  b ← block_of name
  given ← given_of fields
  Some (Feed b given.0 given.1)

abbrev pub close_of : List (List ℕ) → Option Command
close_of fields = option_map Close (name_alone fields)

abbrev pub set_of : List (List ℕ) → Option Command
set_of [] = None
set_of (name ∷ []) = None
set_of (name ∷ place ∷ []) = None
set_of (name ∷ place ∷ number ∷ fields) = do
  b ← block_of name
  at ← place_of place
  numbers ← integers_of (number ∷ fields)
  Some (Set b at numbers)

abbrev pub claim_of : List (List ℕ) → Option Command
claim_of fields = option_map (λ pair. Claim pair.0 pair.1) (name_and_max fields)

abbrev pub commit_of : List (List ℕ) → Option Command
commit_of fields = option_map Commit (name_alone fields)

abbrev pub abandon_of : List (List ℕ) → Option Command
abandon_of fields = option_map Abandon (name_alone fields)

abbrev pub step_of : List (List ℕ) → Option Command
step_of fields = option_map (λ pair. Step pair.0 pair.1) (name_and_max fields)

abbrev pub read_of : List (List ℕ) → Option Command
read_of [] = None
read_of (name ∷ fields) = do
  two ← only_two fields
  b ← block_of name
  first ← offset_of two.0
  n ← max_of two.1
  Some (Read b first n)

abbrev pub why_of : List (List ℕ) → Option Command
why_of fields = option_map Why (name_alone fields)

abbrev pub quiet_of : List (List ℕ) → Option Command
quiet_of [] = Some Quiet
quiet_of (other ∷ fields) = None

abbrev pub settle_of : List (List ℕ) → Option Command
settle_of [] = Some Settle
settle_of (other ∷ fields) = None

-- the command that a first field and those behind it are
abbrev pub command_of : List ℕ → List (List ℕ) → Option Command
command_of word fields =
    if bytes_eq word (codes "feed") then feed_of fields
    else (if bytes_eq word (codes "close") then close_of fields
    else (if bytes_eq word (codes "set") then set_of fields
    else (if bytes_eq word (codes "claim") then claim_of fields
    else (if bytes_eq word (codes "commit") then commit_of fields
    else (if bytes_eq word (codes "abandon") then abandon_of fields
    else (if bytes_eq word (codes "step") then step_of fields
    else (if bytes_eq word (codes "read") then read_of fields
    else (if bytes_eq word (codes "why") then why_of fields
    else (if bytes_eq word (codes "quiet") then quiet_of fields
    else (if bytes_eq word (codes "settle") then settle_of fields
    else None))))))))))

abbrev pub says : Option Command → Parsed
says None = Bad
says (Some c) = Says c

abbrev pub parsed_fields : List (List ℕ) → Parsed
parsed_fields [] = Nothing
parsed_fields (word ∷ fields) = says (command_of word fields)

-- what a line says. A line that begins with # says nothing, and one of spaces only neither; but none may be too long
unfoldable pub parsed_line : List ℕ → Parsed
parsed_line line =
    if nat_lt longest_line (length line) then Bad
    else (if begins_with number_sign line then Nothing
    else parsed_fields (fields_of line))

-- what lines say that are numbered from n on: a line behind the last that there may be is none that a line may say
abbrev pub parsed_at : ℕ → List ℕ → Parsed
parsed_at n line = if nat_lt most_lines n then Bad else parsed_line line

abbrev pub parsed_from : ℕ → List (List ℕ) → List Parsed
parsed_from n [] = []
parsed_from n (line ∷ lines) = parsed_at n line ∷ parsed_from (suc n) lines
