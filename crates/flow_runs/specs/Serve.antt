-- What the program does with a graph file and its streams.
use Rattle.std.specs.Prelude.{⊤, ℕ, ◌+◌, ◌≡◌, ◌⊎◌, List, [], ◌∷◌, Option, None, Result, Ok, Err, IsOk, if◌then◌else◌}
use Rattle.stream_model.specs.Network.{State}
use Rattle.stream_model.specs.Machine.{is_all_done}
use Rattle.machine_laws.specs.Sound.{Sound}
use Rattle.flowgraph.specs.Flowgraph.{Flowgraph, net_of}
use Rattle.kinds.specs.declared.kind.Kind.{Kind}
use Rattle.kinds.specs.Kind.{meaning_of}
use Rattle.plant.specs.Plant.{PlantState}
use Rattle.graph_file.specs.Refusals.{Refusal, IsRefused}
use Rattle.graph_file.specs.Blocks.{drafted}
use Rattle.file_plants.specs.Opening.{Opened, opened_of}
use Rattle.call_history.specs.History.{Noted, AreOwn, IsRunOf}
use Rattle.call_history.specs.Logs.{AreLogs}
use Rattle.byte_io.specs.Ends.{AppendsBeginning}
use Rattle.closing.specs.Closing.{closed}
use Rattle.flow_runs.specs.AtDesk.{AtDesk, live_desk, with_log}
use Rattle.flow_core.specs.Script.{Ends, Breaks}
use Rattle.flow_core.specs.Serve.{Stream, IsCheck, IsCheckOfFeeds, IsPicture, IsAtRest, IsRunAlone, IsRunAloneTo, IsScript, Refuses, Remarks, StopsScript, Tries, Writes, WritesNot, graph_in, plant_in, reads_failed, stalled_in, writes_failed}
use Rattle.flow_runs.specs.Faults.{serve_line, serve_status}
use Rattle.flow_runs.specs.declared.fault.ServeFault.{ServeFault}
use Rattle.flow_runs.specs.declared.fault.ServeFault.TheVariants.{Command, Run}
use Rattle.flow_core.specs.Reports.{run_text}
use Rattle.flow_core.specs.declared.fault.Fault.{Fault}
use Rattle.flow_core.specs.declared.fault.Fault.TheVariants.{File, Script}
use Rattle.flow_core.specs.declared.script.ScriptFault.{ScriptFault}
use Rattle.flow_core.specs.declared.script.ScriptFault.TheVariants.{BadLine, Read, Write, Memory}
use Rattle.flow_runs.specs.declared.serve.Action.{Action}
use Rattle.flow_runs.specs.declared.serve.Action.TheVariants as action
use Rattle.flow_core.specs.declared.stalls.Verbosity.{Verbosity}

-- a file is refused, memory ran out behind it, or a run of it in threads came to no end
abbrev pub Fails : {A : Type 0} → Result A Refusal → ServeFault → Type 0
Fails r (Run fault) = IsOk r
Fails r (Command fault) = Refuses r fault

-- a run of a file in threads: its plant with all sources closed came to rest, with what it was handed, and is reported
-- as it was then. Which block fired when is nowhere said
pub record IsRun (file text : List ℕ) (status : ℕ) : Type 0 where
  pub plant : Opened
  pub opens : plant_in file ≡ Ok plant
  pub last : State
  pub handed : last.handed ≡ (closed plant.draft.net plant.state).handed
  pub sound : Sound plant.draft.net plant.capacities last
  pub rests : IsAtRest plant.draft.net plant.capacities last
  pub told : text ≡ run_text plant.draft last
  pub well : status ≡ (if is_all_done last then 0 else 3)

-- a run, and the plant of it that stalled
abbrev pub IsRunTo : List ℕ → Option Opened → List ℕ → ℕ → Type 0
IsRunTo file stalled text status = (run : IsRun file text status) × (stalled ≡ stalled_in run.plant run.last)

-- nothing was written, or the write of such a text failed and left a beginning of it; or a run in threads came to no
-- end
abbrev pub RunsNot : {A : Type 0} → (List ℕ → ℕ → Type 0) → Result A Refusal → Option (List ℕ) → Option (List ℕ)
    → ServeFault → Type 0
RunsNot IsDone r out out' (Run fault) = IsOk r × (out' ≡ out)
RunsNot IsDone r out out' (Command fault) = WritesNot IsDone r out out' fault

-- each line of an input was answered at a desk of a graph, with this log
pub record AnswersLines (graph : Flowgraph Kind) (log : List Noted) (input out : Option (List ℕ)) : Type 0 where
  pub left : Option (List ℕ)
  pub replied : Option (List ℕ)
  pub ends : Ends (AtDesk meaning_of) (live_desk graph) (with_log (live_desk graph) log) input left out replied

-- a run of a file in threads with its sources left open, while each line of an input was answered: its plant came where
-- a history leads in which each call is its caller's own, and those at the desk are those that the lines ask for, with
-- the replies that were written, to rest, and the report of it then
pub record IsLive (file : List ℕ) (input out : Option (List ℕ)) (text : List ℕ) (status : ℕ) : Type 0 where
  pub plant : PlantState Kind
  pub opens : plant_in file ≡ Ok (opened_of plant)
  pub log : List Noted
  pub lines : AnswersLines plant.graph log input out
  pub history : List Noted
  pub logs : AreLogs (log ∷ []) history
  pub own : AreOwn history
  pub last : State
  pub run : IsRunOf (net_of meaning_of plant.graph) plant.capacities plant.state history last
  pub rests : IsAtRest (net_of meaning_of plant.graph) plant.capacities last
  pub told : text ≡ run_text (drafted plant.graph) last
  pub well : status ≡ (if is_all_done last then 0 else 3)

abbrev pub IsLiveTo : List ℕ → Option (List ℕ) → Option (List ℕ) → Option Opened → List ℕ → ℕ → Type 0
IsLiveTo file input out stalled text status = (run : IsLive file input out text status)
    × (stalled ≡ stalled_in (opened_of run.plant) run.last)

-- lines at a desk stopped by a fault, or the run came to no end
abbrev pub StopsLines : Flowgraph Kind → Option (List ℕ) → Option (List ℕ) → ServeFault → Type 0
StopsLines graph input out (Command (File fault)) = ⊥
StopsLines graph input out (Command (Script fault)) = (left : Option (List ℕ)) × (replied : Option (List ℕ))
    × Breaks (AtDesk meaning_of) (live_desk graph) input left out replied fault
StopsLines graph input out (Run fault) = ⊤

-- each line was answered, and memory ran out for the report, or its write failed and left a beginning of it
abbrev pub StopsBehind : List ℕ → Flowgraph Kind → Option (List ℕ) → Option (List ℕ) → Option (List ℕ) → ScriptFault
    → Type 0
StopsBehind file graph input out out' (BadLine n) = ⊥
StopsBehind file graph input out out' Read = ⊥
StopsBehind file graph input out out' Write =
    (between : Option (List ℕ)) × (stalled : Option Opened) × (text : List ℕ) × (status : ℕ)
    × IsLiveTo file input out stalled text status × AppendsBeginning between out' text
StopsBehind file graph input out out' Memory = (log : List Noted) × AnswersLines graph log input out

-- a file was refused, before anything was read or written; or its lines stopped by a fault, or all were answered and
-- their report was not written. Where threads came to no end, what came of its streams is not known
abbrev pub StopsLive : List ℕ → Option (List ℕ) → Option (List ℕ) → Option (List ℕ) → Option (List ℕ) → ServeFault
    → Type 0
StopsLive file input input' out out' (Command (File fault)) = IsRefused (plant_in file) fault × (input' ≡ input)
    × (out' ≡ out)
StopsLive file input input' out out' (Command (Script fault)) =
    (plant : PlantState Kind) × (plant_in file ≡ Ok (opened_of plant))
    × (StopsLines plant.graph input out (Command (Script fault)) ⊎ StopsBehind file plant.graph input out out' fault)
StopsLive file input input' out out' (Run fault) = IsOk (plant_in file)

-- a command was done, with a status, and a run may have stalled; only a script and a live run read their input
abbrev pub Does : Action → List ℕ → Option (List ℕ) → Option (List ℕ) → Option (List ℕ) → Option (List ℕ) → ℕ
    → Option Opened → Type 0
Does action.Check file input input' out out' status stalled = (input' ≡ input) × Writes (IsCheck file) out out' status
    × (stalled ≡ None)
Does action.CheckFeeds file input input' out out' status stalled = (input' ≡ input)
    × Writes (IsCheckOfFeeds file) out out' status × (stalled ≡ None)
Does (action.Draw format) file input input' out out' status stalled = (input' ≡ input)
    × Writes (IsPicture format file) out out' status × (stalled ≡ None)
Does (action.Run threading) file input input' out out' status stalled = (input' ≡ input)
    × Writes (IsRunTo file stalled) out out' status
Does action.RunAlone file input input' out out' status stalled = (input' ≡ input)
    × Writes (IsRunAloneTo file stalled) out out' status
Does action.Live file input input' out out' status stalled = (between : Option (List ℕ))
    × Writes (IsLiveTo file input out stalled) between out' status
Does action.Script file input input' out out' status stalled = IsScript file input input' out out' × (status ≡ 0)
    × (stalled ≡ None)

-- no thread is to blame for a fault, of which this is so
abbrev pub OfCommand : (Fault → Type 0) → ServeFault → Type 0
OfCommand Is (Command fault) = Is fault
OfCommand Is (Run fault) = ⊥

-- a command was not done, for a fault
abbrev pub DoesNot : Action → List ℕ → Option (List ℕ) → Option (List ℕ) → Option (List ℕ) → Option (List ℕ)
    → ServeFault → Type 0
DoesNot action.Check file input input' out out' fault = (input' ≡ input)
    × OfCommand (WritesNot (IsCheck file) (graph_in file) out out') fault
DoesNot action.CheckFeeds file input input' out out' fault = (input' ≡ input)
    × OfCommand (WritesNot (IsCheckOfFeeds file) (plant_in file) out out') fault
DoesNot (action.Draw format) file input input' out out' fault = (input' ≡ input)
    × OfCommand (WritesNot (IsPicture format file) (graph_in file) out out') fault
DoesNot (action.Run threading) file input input' out out' fault = (input' ≡ input)
    × RunsNot (IsRun file) (plant_in file) out out' fault
DoesNot action.RunAlone file input input' out out' fault = (input' ≡ input)
    × OfCommand (WritesNot (IsRunAlone file) (plant_in file) out out') fault
DoesNot action.Live file input input' out out' fault = StopsLive file input input' out out' fault
DoesNot action.Script file input input' out out' fault = OfCommand (StopsScript file input input' out out') fault

-- a result came from that of a command on one thread: what went well led to what is so of it, and a fault stays
abbrev pub Becomes : {A B : Type 0} → (A → B → Type 0) → Result A Fault → Result B ServeFault → Type 0
Becomes Is (Ok a) (Ok b) = Is a b
Becomes Is (Ok a) (Err fault) = ⊥
Becomes Is (Err fault) (Ok b) = ⊥
Becomes Is (Err fault) (Err other) = other ≡ Command fault

-- how many reads failed by a fault, and how many writes
abbrev pub reads_failed_by : ServeFault → ℕ
reads_failed_by (Command fault) = reads_failed fault
reads_failed_by (Run fault) = 0

abbrev pub writes_failed_by : ServeFault → ℕ
writes_failed_by (Command fault) = writes_failed fault
writes_failed_by (Run fault) = 0

-- the same of a result
abbrev pub reads_in : {X : Type 0} → Result X ServeFault → ℕ
reads_in (Ok x) = 0
reads_in (Err fault) = reads_failed_by fault

abbrev pub writes_in : {X : Type 0} → Result X ServeFault → ℕ
writes_in (Ok x) = 0
writes_in (Err fault) = writes_failed_by fault

-- a count of failed calls grew by so many; of those that a live run makes nothing is said, since a thread of its own
-- makes them
abbrev pub Grows : Action → ℕ → ℕ → ℕ → Type 0
Grows action.Check old new n = new ≡ old + n
Grows action.CheckFeeds old new n = new ≡ old + n
Grows (action.Draw format) old new n = new ≡ old + n
Grows (action.Run threading) old new n = new ≡ old + n
Grows action.RunAlone old new n = new ≡ old + n
Grows action.Live old new n = ⊤
Grows action.Script old new n = new ≡ old + n

-- a command was done, and no fault is reported, but why a run stalled may be explained; or it was not, the fault is
-- reported, and the status is the one that it brings; the graph file has that name
pub data Serves (verbosity : Verbosity) (c : Action) (name file : List ℕ)
    (input input' output output' errors errors' : Stream) : ℕ → Type 0 where
  Well : (status : ℕ) (stalled : Option Opened) → Does c file input.bytes input'.bytes output.bytes output'.bytes status
      stalled →
      Grows c input.failed input'.failed 0 → Grows c output.failed output'.failed 0
      → Remarks verbosity stalled errors errors' →
      Serves verbosity c name file input input' output output' errors errors' status
  Badly : (fault : ServeFault) → DoesNot c file input.bytes input'.bytes output.bytes output'.bytes fault →
      Grows c input.failed input'.failed (reads_failed_by fault) → Grows c output.failed output'.failed
      (writes_failed_by fault) → Tries errors errors' (serve_line name fault) →
      Serves verbosity c name file input input' output output' errors errors' (serve_status fault)
