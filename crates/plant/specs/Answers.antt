-- What a call of a plant answers, beside the machine: its reply and its next state, or no memory and nothing changed.
use Rattle.std.specs.Prelude.{ℕ, ◌≡◌, Option, Some, None, Bool, true, false, not, nat_lt, if◌then◌else◌, length, map, Result, Ok, Err, ⊤}
use Rattle.stream_model.specs.declared.vocabulary.ItemType.{ItemType}
use Rattle.stream_model.specs.Network.{Network, State, node_at, progress_at, role_at, is_source}
use Rattle.stream_model.specs.Machine as machine
use Rattle.stream_model.specs.Machine.{Reply, Refused}
use Rattle.items.specs.Items.{numbers_of}
use Rattle.flowgraph.specs.Flowgraph.{Flowgraph}
use Rattle.firing_rules.specs.declared.decision.Decision.{Decision}
use Rattle.firing_rules.specs.declared.decision.Decision.TheVariants as decision
use Rattle.firing_rules.specs.declared.decision.Need.{Need}
use Rattle.firing_rules.specs.declared.decision.Need.TheVariants as need
use Rattle.items.specs.Tags.{tag_of}
use Rattle.plant.specs.declared.answers.Piece.{Piece}
use Rattle.plant.specs.declared.answers.SinkView.{SinkView}
use Rattle.plant.specs.declared.answers.Claim.{Claim}
use Rattle.plant.specs.declared.answers.Claim.TheVariants as claim
use Rattle.plant.specs.declared.answers.Step.{Step}
use Rattle.plant.specs.declared.answers.Step.TheVariants as step
use Rattle.plant_faults.specs.declared.fault.PlantFault.{PlantFault}
use Rattle.plant_faults.specs.declared.fault.PlantFault.TheVariants.{NoSuchBlock, NotSource, Late, Memory}
use Rattle.plant_faults.specs.Fault.{number_of}
use Rattle.plant.specs.Plant.{PlantState}

-- a refusal is a reply, unless it is out of memory
abbrev pub refusal_of : PlantFault → Option Reply
refusal_of Memory = None
refusal_of (Late floor) = Some (machine.Late floor)
refusal_of fault = Some (Refused (number_of fault))

-- the reply that a result is, where it is one
abbrev pub reply_of : {R : Type 0} → (R → Reply) → Result R PlantFault → Option Reply
reply_of ok (Ok r) = Some (ok r)
reply_of ok (Err e) = refusal_of e

-- whether a call that is so answered stores or gives items, tags, a setting or a job, for which memory may run out; no
-- other reply needs any. (A commit that stands for itself takes none, and is not answered so.)
abbrev pub takes_memory : Reply → Bool
takes_memory (machine.Fed total) = true
takes_memory (machine.Taken at) = true
takes_memory (machine.Claimed job) = true
takes_memory (machine.Did count) = true
takes_memory (machine.Piece from held items tags done) = true
takes_memory _ = false

-- a call took a plant from one state to the next: it answered as the machine does now, or was out of memory, and
-- nothing changed
abbrev pub Answered : {B : Type 0} → Reply × State → PlantState B → PlantState B → Option Reply → Type 0
Answered now old new None = (takes_memory now.0 ≡ true) × (new ≡ old)
Answered now old new (Some reply) = (reply ≡ now.0) × (new ≡ record old { state = now.1 })

-- the same of a call that memory cannot fail
abbrev pub AnsweredAlways : {B : Type 0} → Reply × State → PlantState B → PlantState B → Option Reply → Type 0
AnsweredAlways now old new reply = (reply ≡ Some now.0) × (new ≡ record old { state = now.1 })

-- a call that only looks answered as the machine does, or was out of memory
abbrev pub AnsweredBy : Reply × State → Option Reply → Type 0
AnsweredBy now None = takes_memory now.0 ≡ true
AnsweredBy now (Some reply) = reply ≡ now.0

-- firings were claimed, so that a job is due
abbrev pub is_claimed : Decision → Bool
is_claimed (decision.Claimed first count) = true
is_claimed decision.Done = false
is_claimed decision.Ended = false
is_claimed decision.Busy = false
is_claimed (decision.Waiting need) = false

-- what a claim answers, as a reply
abbrev pub waiting_reply : Need → Reply
waiting_reply (need.Items port) = machine.WaitingItems port
waiting_reply (need.Room port) = machine.WaitingRoom port

abbrev pub claim_reply : {B P : Type 0} → Claim B P → Reply
claim_reply (claim.Claimed job) = machine.Claimed job.job
claim_reply claim.Done = machine.Done
claim_reply claim.Busy = machine.Busy
claim_reply (claim.Waiting need) = waiting_reply need

abbrev pub step_reply : Step → Reply
step_reply (step.Did count) = machine.Did count
step_reply step.Done = machine.Done
step_reply step.Busy = machine.Busy
step_reply (step.Waiting need) = waiting_reply need

-- a job that is claimed is one of this graph
abbrev pub IsOf : {B P : Type 0} → Flowgraph B → Claim B P → Type 0
IsOf g (claim.Claimed job) = job.graph ≡ g
IsOf g claim.Done = ⊤
IsOf g claim.Busy = ⊤
IsOf g (claim.Waiting need) = ⊤

-- a job that was handed in was taken back, or it is returned and nothing changed, as the machine says
abbrev pub IsTaken : {B R J : Type 0} → (R → Reply) → Reply × State → PlantState B → PlantState B → J → Result R J
    → Type 0
IsTaken ok now old new job (Ok r) = (now.0 ≡ ok r) × (new ≡ record old { state = now.1 })
IsTaken ok now old new job (Err back) = (now.0 ≡ Refused machine.foreign) × (back ≡ job) × (new ≡ old)

-- what a sink shows, as a reply
abbrev pub piece_reply : Piece → Reply
piece_reply p = machine.Piece p.from p.held (numbers_of p.items) (map tag_of p.tags.items) p.done

-- what a view of a sink shows, as a reply
abbrev pub view_reply : SinkView → Reply
view_reply v = machine.Piece 0 (length (numbers_of v.items.now)) (numbers_of v.items.now) (map tag_of v.tags.now) v.done

-- the reply to a call that reads all that a sink holds
abbrev pub view_of : Network → State → ℕ → Reply
view_of net st b = (machine.read_of net st b 0 (progress_at st.progress b).firings).0

-- the type of the items that a source gives, where the block is one
abbrev pub source_type_of : Network → ℕ → Result ItemType PlantFault
source_type_of net b =
    if not (nat_lt b (length net.nodes)) then Err NoSuchBlock
    else (if not (is_source (role_at net b)) then Err NotSource
    else Ok (node_at net b).meaning.outputs.item)
