-- What a script writes.
use Rattle.std.specs.Prelude.{⊤, ◌≡◌, ℕ, suc, ◌+◌, ◌-◌, ◌^◌, ◌≤◌, ◌⊎◌, List, [], ◌∷◌, ◌++◌, length, Option, Some, None, Bool, true, false, Result, Ok, Err}
use Rattle.std.specs.Io.KnownBytes.{Appends, Consumes, IsAtEnd}
use Rattle.stream_model.specs.Network.{State}
use Rattle.script_text.specs.Lines.{lines_of, most_lines}
use Rattle.script_text.specs.Splits.{Split, IsUnfinished, KeepsBytes}
use Rattle.script_text.specs.Scripts.{said_of, GoesOn}
use Rattle.script_text.specs.Grammar.{Command, Parsed, Nothing, Bad, Says, parsed_from}
use Rattle.byte_io.specs.Ends.{AppendsBeginning}
use Rattle.flow_core.specs.Session.{Graph, Standing, Answers}
use Rattle.flow_core.specs.declared.script.ScriptFault.{ScriptFault}
use Rattle.flow_core.specs.declared.script.ScriptFault.TheVariants.{BadLine, Read, Write, Memory}

-- how a command is answered: in which standing, which it leaves, and with which line
abbrev pub Answering : Type 0 → Type 1
Answering S = Command → S → S → List ℕ → Type 0

-- a command that is never answered
abbrev pub HasNone : {S : Type 0} → Answering S → Command → Type 0
HasNone {S} A c = (old new : S) (line : List ℕ) → A c old new line → ⊥

-- a line that is bad: it says nothing that a line may say, or a command that is never answered
abbrev pub IsBad : {S : Type 0} → Answering S → Parsed → Type 0
IsBad A Nothing = ⊥
IsBad A Bad = ⊤
IsBad A (Says c) = HasNone A c

-- a command was answered with a line; or it never is
abbrev pub IsAnswer : {S : Type 0} → Answering S → Command → S → S → Option (List ℕ) → Type 0
IsAnswer A c old new None = HasNone A c
IsAnswer A c old new (Some line) = A c old new line

-- the replies to lines of which none is bad, one after another, and the standing that they leave
abbrev pub Replies : {S : Type 0} → Answering S → List Parsed → S → S → List ℕ → Type 0
Replies A [] old new text = (text ≡ []) × (new ≡ old)
Replies A (Nothing ∷ lines) old new text = Replies A lines old new text
Replies A (Bad ∷ lines) old new text = ⊥
Replies {S} A (Says c ∷ lines) old new text =
    (mid : S) × (first : List ℕ) × (later : List ℕ) × (text ≡ first ++ later) × A c old mid first
    × Replies A lines mid new later

-- the lines were answered, in this order: their replies were written, and nothing else
pub record Answered {S : Type 0} (A : Answering S) (old new : S) (out out' : Option (List ℕ)) (lines : List Parsed) :
    Type 0 where
  pub text : List ℕ
  pub replies : Replies A lines old new text
  pub written : Appends out out' text

-- what is said begins with these lines, whatever bytes come behind those that were read
abbrev pub Begins : (List ℕ → List Parsed) → List Parsed → Type 0
Begins said lines = (more : List ℕ) → (later : List Parsed) × (said more ≡ lines ++ later)

-- the first bad line, where so many lines came before what is said; the lines before it were answered
pub record StopsAtBad {S : Type 0} (A : Answering S) (st : S) (out out' : Option (List ℕ)) (said : List ℕ → List Parsed)
    (count n : ℕ) : Type 0 where
  pub before : List Parsed
  pub last : S
  pub answered : Answered A st last out out' before
  pub line : Parsed
  pub bad : IsBad A line
  pub next : Begins said (before ++ line ∷ [])
  pub number : n ≡ suc (count + length before)

-- all lines whose end has come were answered: behind them nothing is left but less than a line
pub record StopsBetween {S : Type 0} (A : Answering S) (st : S) (out out' : Option (List ℕ))
    (said : List ℕ → List Parsed) (count : ℕ) : Type 0 where
  pub before : List Parsed
  pub last : S
  pub answered : Answered A st last out out' before
  pub rest : List ℕ
  pub unfinished : IsUnfinished rest
  pub next : (more : List ℕ) → said more ≡ before ++ parsed_from (suc (count + length before)) (lines_of (rest ++ more))

-- some lines were answered, and the next is a command: no other line takes memory, and so none that is bad
pub record StopsInLine {S : Type 0} (A : Answering S) (st : S) (out out' : Option (List ℕ))
    (said : List ℕ → List Parsed) : Type 0 where
  pub before : List Parsed
  pub last : S
  pub answered : Answered A st last out out' before
  pub command : Command
  pub next : Begins said (before ++ Says command ∷ [])

-- a line was answered, and only a beginning of its reply was written
pub record StopsWriting {S : Type 0} (A : Answering S) (st : S) (out out' : Option (List ℕ))
    (said : List ℕ → List Parsed) : Type 0 where
  pub before : List Parsed
  pub last : S
  pub between : Option (List ℕ)
  pub answered : Answered A st last out between before
  pub command : Command
  pub after : S
  pub text : List ℕ
  pub reply : A command last after text
  pub cut : AppendsBeginning between out' text
  pub next : Begins said (before ++ Says command ∷ [])

-- where a script stops by a fault, behind so many lines that came before what is said: at the first bad line, where a
-- read fails behind all whole lines that were read, and where a write fails or memory runs out at a command, behind all
-- lines before it
abbrev pub Stops : {S : Type 0} → Answering S → S → Option (List ℕ) → Option (List ℕ) → (List ℕ → List Parsed) → ℕ
    → ScriptFault → Type 0
Stops A st out out' said count (BadLine bad) = StopsAtBad A st out out' said count bad
Stops A st out out' said count Read = StopsBetween A st out out' said count
Stops A st out out' said count Write = StopsWriting A st out out' said
Stops A st out out' said count Memory = StopsInLine A st out out' said

-- the lines of a script that begins with these bytes
abbrev pub script_after : List ℕ → List ℕ → List Parsed
script_after given more = parsed_from 1 (lines_of (given ++ more))

-- the lines of a script that has no more bytes than these
abbrev pub script_of : List ℕ → List ℕ → List Parsed
script_of given more = script_after given []

-- a script ends: its reader is at its end, and all lines of what it gave were answered
pub record Ends {S : Type 0} (A : Answering S) (st last : S) (input input' out out' : Option (List ℕ)) : Type 0 where
  pub given : List ℕ
  pub read : Consumes input input' given
  pub at_end : IsAtEnd input'
  pub answered : Answered A st last out out' (script_after given [])

-- a script ends in this state of the machine, whatever claims are kept then
pub record RunEndsIn (g : Graph) (st : Standing) (state : State) (input input' out out' : Option (List ℕ)) : Type 0
  where
    pub kept : List Bool
    pub ends : Ends (Answers g) st (record { state = state; kept = kept }) input input' out out'

-- memory ran out at no line: before anything was read, or behind more pieces than a script without a bad line can have
abbrev pub StopsAtNone : List ℕ → Option (List ℕ) → Option (List ℕ) → ScriptFault → Type 0
StopsAtNone given out out' (BadLine n) = ⊥
StopsAtNone given out out' Read = ⊥
StopsAtNone given out out' Write = ⊥
StopsAtNone given out out' Memory = ((given ≡ []) × (out' ≡ out)) ⊎ (2 ^ 64 - 1 ≤ length given)

-- a script stops by a fault, after the reader gave some bytes: at one of their whole lines, or since the reader is at
-- its end at one of all their lines; or at none
pub record Breaks {S : Type 0} (A : Answering S) (st : S) (input input' out out' : Option (List ℕ))
    (fault : ScriptFault) : Type 0 where
  pub given : List ℕ
  pub read : Consumes input input' given
  pub stops : Stops A st out out' (script_after given) 0 fault ⊎ ((IsAtEnd input'
      × Stops A st out out' (script_of given) 0 fault) ⊎ StopsAtNone given out out' fault)

-- lines came to their end, or a fault stopped them
abbrev pub Finishes : {S : Type 0} → Answering S → S → S → Option (List ℕ) → Option (List ℕ) → Option (List ℕ)
    → Option (List ℕ) → Result (Unit {0}) ScriptFault → Type 0
Finishes A st last input input' out out' (Ok done) = Ends A st last input input' out out'
Finishes A st last input input' out out' (Err fault) = Breaks A st input input' out out' fault

-- how many reads failed, and how many writes
abbrev pub failed_reads : {X : Type 0} → Result X ScriptFault → ℕ
failed_reads (Ok x) = 0
failed_reads (Err (BadLine n)) = 0
failed_reads (Err Read) = 1
failed_reads (Err Write) = 0
failed_reads (Err Memory) = 0

abbrev pub failed_writes : {X : Type 0} → Result X ScriptFault → ℕ
failed_writes (Ok x) = 0
failed_writes (Err (BadLine n)) = 0
failed_writes (Err Read) = 0
failed_writes (Err Write) = 1
failed_writes (Err Memory) = 0

-- why no reply to the line of this number was written: its command is never answered, memory ran out, or the write
-- stopped in it
abbrev pub Unwritten : {S : Type 0} → Answering S → Command → ℕ → S → S → Option (List ℕ) → Option (List ℕ)
    → ScriptFault → Type 0
Unwritten A c number old new out out' (BadLine n) = HasNone A c × (n ≡ number) × (out' ≡ out)
Unwritten A c number old new out out' Read = ⊥
Unwritten A c number old new out out' Write = (line : List ℕ) × A c old new line × AppendsBeginning out out' line
Unwritten A c number old new out out' Memory = out' ≡ out

-- a line was taken and answered, or none was, since its end has not come
abbrev pub Proceeds : {S : Type 0} → Answering S → S → S → Option (List ℕ) → Option (List ℕ) → Split → Split → Bool
    → Type 0
Proceeds A st last out out' old new true = (line : Parsed) × GoesOn line old new
    × Answered A st last out out' (line ∷ [])
Proceeds A st last out out' old new false = IsUnfinished new.rest × KeepsBytes old new × (last ≡ st) × (out' ≡ out)

-- lines were taken and answered
pub record Went {S : Type 0} (A : Answering S) (st last : S) (out out' : Option (List ℕ)) (old new : Split) : Type 0
  where
    pub before : List Parsed
    pub answered : Answered A st last out out' before
    pub says : (more : List ℕ) → said_of old more ≡ before ++ said_of new more
    pub counted : new.taken ≡ old.taken + length before
    pub low : new.taken ≤ most_lines

-- what a script did so far, between its pieces, of which so many were read
pub record Flows {S : Type 0} (A : Answering S) (st last : S) (input input' out out' : Option (List ℕ)) (lines : Split)
    (pieces : ℕ) : Type 0 where
  pub given : List ℕ
  pub many : pieces ≤ length given
  pub before : List Parsed
  pub read : Consumes input input' given
  pub answered : Answered A st last out out' before
  pub says : (more : List ℕ) → script_after given more ≡ before ++ said_of lines more
  pub counted : lines.taken ≡ length before
  pub low : lines.taken ≤ most_lines
  pub unfinished : IsUnfinished lines.rest
