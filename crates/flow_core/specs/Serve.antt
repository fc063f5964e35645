-- What commands that run on one thread do with a graph file and its streams.
use Rattle.std.specs.Prelude.{ℕ, ◌+◌, ◌≡◌, ◌⊎◌, List, Option, Some, None, Bool, true, false, Result, Ok, Err, IsOk, if◌then◌else◌}
use Rattle.std.specs.Str.{is_utf8}
use Rattle.std.specs.Io.KnownBytes.{Appends}
use Rattle.toml.specs.Parse.{parse_document}
use Rattle.stream_model.specs.Network.{Network, State}
use Rattle.stream_model.specs.Machine.{Capacities, is_all_done, is_quiet, IsWhole}
use Rattle.flowgraph.specs.Flowgraph.{Flowgraph}
use Rattle.kinds.specs.declared.kind.Kind.{Kind}
use Rattle.kinds.specs.Kind.{meaning_of}
use Rattle.plant.specs.Plant.{PlantState}
use Rattle.plant.specs.Settling.{StepsLead}
use Rattle.graph_file.specs.Refusals.{Refusal, IsRefused, syntax}
use Rattle.graph_file.specs.Steps.{then}
use Rattle.graph_file.specs.Blocks.{Draft, drafted}
use Rattle.graph_file.specs.File.{Content, file_of}
use Rattle.file_plants.specs.Opening.{Opened, opened, opened_of, streamed}
use Rattle.graph_file.specs.Validity.{validated}
use Rattle.drawings.specs.Drawings.{drawn_text}
use Rattle.drawings.specs.declared.drawing.Format.{Format}
use Rattle.graph_model.specs.Rates.{balance_of}
use Rattle.byte_io.specs.Ends.{AppendsBeginning}
use Rattle.byte_io.specs.declared.ends.Broken.{Broken}
use Rattle.closing.specs.Closing.{closed}
use Rattle.flow_core.specs.Session.{Answers, graph_of, standing_of, none_kept, turn}
use Rattle.flow_core.specs.Script.{RunEndsIn, Breaks, failed_reads, failed_writes}
use Rattle.flow_core.specs.Reports.{check_text, run_text}
use Rattle.flow_core.specs.Stalls.{stall_text, uneven_line}
use Rattle.flow_core.specs.declared.fault.Fault.{Fault}
use Rattle.flow_core.specs.declared.fault.Fault.TheVariants.{File, Script}
use Rattle.flow_core.specs.declared.script.ScriptFault.TheVariants.{BadLine, Read, Write, Memory}
use Rattle.flow_core.specs.declared.stalls.Verbosity.{Verbosity}
use Rattle.flow_core.specs.declared.stalls.Verbosity.TheVariants.{WithNotes, Quiet}

-- the bytes of a stream, of an input those that are left, and how many reads or writes of it failed
pub record Stream : Type 0 where
  pub bytes : Option (List ℕ)
  pub failed : ℕ

abbrev pub stream : Option (List ℕ) → ℕ → Stream
stream bytes failed = record { bytes = bytes; failed = failed }

-- what the bytes of a graph file say, or why they are refused
abbrev pub content_in : List ℕ → Result Content Refusal
content_in text = if is_utf8 text then file_of (parse_document text) else Err syntax

-- its valid graph, and the plant that it opens
abbrev pub graph_in : List ℕ → Result Draft Refusal
graph_in text = (then) (content_in text) (λ c. validated c.graph)

abbrev pub plant_in : List ℕ → Result Opened Refusal
plant_in text = (then) (content_in text) opened

-- and the plant that it opens as one that streams, whose tapes may be longer
abbrev pub streamed_in : List ℕ → Result Opened Refusal
streamed_in text = (then) (content_in text) streamed

-- a file is refused, or it is not, and memory ran out behind it
abbrev pub Refuses : {A : Type 0} → Result A Refusal → Fault → Type 0
Refuses r (File fault) = IsRefused r fault
Refuses r (Script (BadLine n)) = ⊥
Refuses r (Script Read) = ⊥
Refuses r (Script Write) = ⊥
Refuses r (Script Memory) = IsOk r

-- a check of a file: the report of its graph
pub record IsCheck (file text : List ℕ) (status : ℕ) : Type 0 where
  pub graph : Draft
  pub valid : graph_in file ≡ Ok graph
  pub told : text ≡ check_text graph
  pub well : status ≡ 0

-- the same of a file whose feeds go onto the tapes
pub record IsCheckOfFeeds (file text : List ℕ) (status : ℕ) : Type 0 where
  pub plant : Opened
  pub opens : plant_in file ≡ Ok plant
  pub told : text ≡ check_text plant.draft
  pub well : status ≡ 0

-- a picture of a file's graph, as text in a format
pub record IsPicture (format : Format) (file text : List ℕ) (status : ℕ) : Type 0 where
  pub graph : Flowgraph Kind
  pub valid : graph_in file ≡ Ok (drafted graph)
  pub drawn : text ≡ drawn_text format graph
  pub well : status ≡ 0

-- no block can act: each is done, and each sink holds its whole stream, or some block is not done
pub record IsAtRest (net : Network) (caps : Capacities) (st : State) : Type 0 where
  pub whole : is_all_done st ≡ true → IsWhole net st
  pub quiet : is_all_done st ≡ false → is_quiet net caps st ≡ true

-- a run of a file on one thread: its plant with all sources closed went on, block by block, until it came to rest, and
-- is reported as it was then
pub record IsRunAlone (file text : List ℕ) (status : ℕ) : Type 0 where
  pub plant : Opened
  pub opens : plant_in file ≡ Ok plant
  pub last : State
  pub steps : StepsLead plant.draft.net plant.capacities turn (closed plant.draft.net plant.state) last
  pub rests : IsAtRest plant.draft.net plant.capacities last
  pub told : text ≡ run_text plant.draft last
  pub well : status ≡ (if is_all_done last then 0 else 3)

-- the plant in which a run came to rest, if it stalled
abbrev pub stalled_in : Opened → State → Option Opened
stalled_in plant last = if is_all_done last then None else Some (record plant { state = last })

-- what is told of a plant that came to rest, and the plant where it stalled
pub record IsEnd (plant : Opened) (stalled : Option Opened) (text : List ℕ) (status : ℕ) : Type 0 where
  pub rests : IsAtRest plant.draft.net plant.capacities plant.state
  pub told : text ≡ run_text plant.draft plant.state
  pub well : status ≡ (if is_all_done plant.state then 0 else 3)
  pub left : stalled ≡ stalled_in plant plant.state

-- such a run, and the plant of it that stalled
abbrev pub IsRunAloneTo : List ℕ → Option Opened → List ℕ → ℕ → Type 0
IsRunAloneTo file stalled text status = (run : IsRunAlone file text status) × (stalled ≡ stalled_in run.plant run.last)

-- a text was written, with a status
abbrev pub Writes : (List ℕ → ℕ → Type 0) → Option (List ℕ) → Option (List ℕ) → ℕ → Type 0
Writes IsDone out out' status = (text : List ℕ) × IsDone text status × Appends out out' text

-- nothing was written, or the write of such a text failed and left a beginning of it
abbrev pub WritesNot : {A : Type 0} → (List ℕ → ℕ → Type 0) → Result A Refusal → Option (List ℕ) → Option (List ℕ)
    → Fault → Type 0
WritesNot IsDone r out out' (File fault) = IsRefused r fault × (out' ≡ out)
WritesNot IsDone r out out' (Script (BadLine n)) = ⊥
WritesNot IsDone r out out' (Script Read) = ⊥
WritesNot IsDone r out out' (Script Write) = (text : List ℕ) × (status : ℕ) × IsDone text status
    × AppendsBeginning out out' text
WritesNot IsDone r out out' (Script Memory) = IsOk r × (out' ≡ out)

-- a script ran on the plant of a file to the end of its input
pub record IsScript (file : List ℕ) (input input' out out' : Option (List ℕ)) : Type 0 where
  pub plant : PlantState Kind
  pub opens : plant_in file ≡ Ok (opened_of plant)
  pub last : State
  pub ends : RunEndsIn (graph_of meaning_of plant) (standing_of plant (none_kept plant)) last input input' out out'

-- it did not: the file was refused, before anything was read or written, or the script stopped
abbrev pub StopsScript : List ℕ → Option (List ℕ) → Option (List ℕ) → Option (List ℕ) → Option (List ℕ) → Fault → Type 0
StopsScript file input input' out out' (File fault) = IsRefused (plant_in file) fault × (input' ≡ input) × (out' ≡ out)
StopsScript file input input' out out' (Script fault) =
    (plant : PlantState Kind) × (plant_in file ≡ Ok (opened_of plant))
    × Breaks (Answers (graph_of meaning_of plant)) (standing_of plant (none_kept plant)) input input' out out' fault

-- how many reads failed by a fault, and how many writes
abbrev pub reads_failed : Fault → ℕ
reads_failed (File fault) = 0
reads_failed (Script fault) = failed_reads {X = Unit {0}} (Err fault)

abbrev pub writes_failed : Fault → ℕ
writes_failed (File fault) = 0
writes_failed (Script fault) = failed_writes {X = Unit {0}} (Err fault)

-- the same of a result
abbrev pub reads_in : {X : Type 0} → Result X Fault → ℕ
reads_in (Ok x) = 0
reads_in (Err fault) = reads_failed fault

abbrev pub writes_in : {X : Type 0} → Result X Fault → ℕ
writes_in (Ok x) = 0
writes_in (Err fault) = writes_failed fault

-- a line was written, or a beginning of it where the write failed
abbrev pub Tries : Stream → Stream → List ℕ → Type 0
Tries old new line = (Appends old.bytes new.bytes line × (new.failed ≡ old.failed))
    ⊎ (AppendsBeginning old.bytes new.bytes line × (new.failed ≡ old.failed + 1))

-- a text was written by a call that went well, or a beginning of it by one that failed
abbrev pub Puts : Result (Unit {0}) Broken → Stream → Stream → List ℕ → Type 0
Puts (Ok done) old new text = Appends old.bytes new.bytes text × (new.failed ≡ old.failed)
Puts (Err broken) old new text = AppendsBeginning old.bytes new.bytes text × (new.failed ≡ old.failed + 1)

-- why a plant stalled is explained, with its rates only where they are known
abbrev pub Explains : Opened → Stream → Stream → Type 0
Explains plant old new = (known : Bool) × Tries old new (stall_text (uneven_line known (balance_of plant.draft.net))
    plant.draft plant.capacities plant.state)

-- the plant that stalled is explained, if there is one and that is wanted; else nothing is
abbrev pub Remarks : Verbosity → Option Opened → Stream → Stream → Type 0
Remarks WithNotes (Some plant) old new = Explains plant old new
Remarks WithNotes None old new = new ≡ old
Remarks Quiet stalled old new = new ≡ old
