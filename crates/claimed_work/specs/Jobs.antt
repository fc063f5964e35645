-- What a contract sees of a job and of what it made.
use Rattle.std.specs.Prelude.{◌≡◌, ℕ, ◌*◌, ◌+◌, ◌≤◌, ℤ, List, length, map, All}
use Rattle.stream_model.specs.Settings as model
use Rattle.stream_model.specs.Meaning.{AreWanted, IsFed, given_outputs}
use Rattle.stream_model.specs.Network.{Network, node_at}
use Rattle.stream_model.specs.Machine.{Job}
use Rattle.items.specs.declared.stream_items.Items.{Items}
use Rattle.items.specs.Items.{type_of, numbers_of}
use Rattle.settings.specs.declared.value.Held.{Held}
use Rattle.settings.specs.Values.{held_of}
use Rattle.block_trait.specs.Work.{CanWork, least_windows, most_windows}
use Rattle.flowgraph.specs.Flowgraph.{Flowgraph}
use Rattle.claimed_work.specs.declared.claimed.Claimed.{Claimed}

-- a job: firings of a block of this graph
pub record JobState (B : Type 0) : Type 0 where
  pub graph : Flowgraph B
  pub job : Job

-- and what the block made of them: the items of each used output, and the state word after them
pub record WorkedState (B : Type 0) : Type 0 where
  pub graph : Flowgraph B
  pub job : Job
  pub outputs : List (List ℤ)
  pub word : ℕ

-- a job as the model has it
abbrev pub job_of : ℕ → ℕ → ℕ → ℕ → List Items → List Held → ℕ → Job
job_of outputs block first count windows held word =
    record {
      block = block;
      outputs = outputs;
      first = first;
      count = count;
      windows = map numbers_of windows;
      held = map held_of held;
      word = word;
    }

-- the job of firings that were claimed
abbrev pub job_in : {B P : Type 0} → Claimed B P → Job
job_in c = job_of (length c.lent.outputs.items) c.block.0 c.first c.count c.lent.windows.items c.lent.held.items c.word

-- the block may do these firings
abbrev pub CanDo : Network → Job → List Items → List Held → List Items → Type 0
CanDo net job windows held out =
    let n = node_at net job.block in
    CanWork n.meaning (n.multiple * job.first) (n.multiple * job.count) job.word windows held out

-- the job's windows and settings are those of some streams under some settings, each of which has a value that the
-- block takes; it has as many windows as the block can have
pub record WasFed (net : Network) (job : Job) : Type 0 where
  pub settings : List model.Held
  pub streams : List (List ℤ)
  pub fed : let n = node_at net job.block in
      IsFed n.meaning settings streams (n.multiple * job.first) (n.multiple * job.count) job.word job.windows job.held
  pub wanted : AreWanted (node_at net job.block).meaning settings
  pub least : let m = (node_at net job.block).meaning in least_windows m.role m.inputs ≤ length job.windows
  pub most : let m = (node_at net job.block).meaning in length job.windows ≤ most_windows m.role m.inputs

-- items of the type that a block takes, and of the type that it gives
abbrev pub AreTaken : Network → ℕ → List Items → Type 0
AreTaken net b windows = All (λ w. type_of w ≡ (node_at net b).meaning.inputs.item) windows

abbrev pub AreGiven : Network → ℕ → List Items → Type 0
AreGiven net b outputs = All (λ out. type_of out ≡ (node_at net b).meaning.outputs.item) outputs

-- outputs and word are those of the firings, of whatever streams and settings the job's windows and settings are
pub record IsDone (net : Network) (job : Job) (given : List (List ℤ)) (next : ℕ) : Type 0 where
  pub outputs : let n = node_at net job.block in
      (ts : List model.Held) (xs : List (List ℤ)) → IsFed n.meaning ts xs (n.multiple * job.first)
      (n.multiple * job.count) job.word job.windows job.held →
      given ≡ given_outputs n.meaning ts xs (n.multiple * job.first) (n.multiple * job.count) job.outputs
  pub word : let n = node_at net job.block in
      (ts : List model.Held) (xs : List (List ℤ)) → IsFed n.meaning ts xs (n.multiple * job.first)
      (n.multiple * job.count) job.word job.windows job.held →
      next ≡ n.meaning.word ts xs (n.multiple * job.first + n.multiple * job.count)

-- a job that was done: what it was given, and what it made
pub record IsWorked (net : Network) (job : Job) (windows outputs : List Items) (next : ℕ) : Type 0 where
  pub fed : WasFed net job
  pub taken : AreTaken net job.block windows
  pub given : AreGiven net job.block outputs
  pub done : IsDone net job (map numbers_of outputs) next
