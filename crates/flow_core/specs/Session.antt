-- What the commands of a script do, and what they are answered.
use Rattle.std.specs.Prelude.{◌≡◌, ℕ, ◌<◌, ℤ, List, [], ◌∷◌, length, map, position, bytes_eq, Option, Some, None, Bool, true, false, ◌||◌, if◌then◌else◌, ◌⊎◌, slice_set, slice_index_or, Result, Ok, Err}
use Rattle.stream_model.specs.declared.vocabulary.ItemType.TheVariants.{Short}
use Rattle.stream_model.specs.declared.vocabulary.Wanted.{Wanted}
use Rattle.stream_model.specs.declared.vocabulary.Wanted.TheVariants as wanted
use Rattle.stream_model.specs.Settings.{Value, Number, Taps}
use Rattle.stream_model.specs.Meaning.{Meaning}
use Rattle.stream_model.specs.Network.{Network, State, node_at, progress_at}
use Rattle.stream_model.specs.Machine as machine
use Rattle.stream_model.specs.Machine.{Capacities, Reply, Refused, is_wanted}
use Rattle.machine_laws.specs.Stays.{in_flight}
use Rattle.machine_laws.specs.Waits.{Wait, IsOver, HasClaim, MayAct, ForFeed, ForItems, ForRoom, wait_of}
use Rattle.settings.specs.declared.value.Value as settings
use Rattle.settings.specs.Values.{value_of}
use Rattle.flowgraph.specs.Flowgraph.{Flowgraph, net_of}
use Rattle.claimed_work.specs.Jobs.{JobState}
use Rattle.plant_faults.specs.declared.fault.PlantFault.{PlantFault}
use Rattle.plant_faults.specs.declared.fault.PlantFault.TheVariants as fault
use Rattle.plant_faults.specs.Fault.{number_of}
use Rattle.plant.specs.Answers.{takes_memory}
use Rattle.plant.specs.Feeding.{are_items, feed_numbers}
use Rattle.plant.specs.Plant.{PlantState}
use Rattle.plant.specs.Settling.{StepsLead, HasSettled, HoldsSettled}
use Rattle.plant.specs.declared.answers.Settled.{Settled}
use Rattle.plant.specs.declared.answers.Settled.TheVariants as rest
use Rattle.script_text.specs.Grammar.{Command, Feed, Close, Set, Claim, Commit, Abandon, Step, Read, Why, Quiet, Settle}
use Rattle.script_text.specs.Replies.{reply_text, waits_items_text, waits_room_text, waits_feed_text, ready_text, quiet_text, settle_text, line_text}

-- what a script speaks to: the names of the blocks, their network and its capacities
pub record Graph : Type 0 where
  pub names : List (List ℕ)
  pub net : Network
  pub caps : Capacities

-- how far a script is: the machine's state, and for each block whether a claim is kept that a line made
pub record Standing : Type 0 where
  pub state : State
  pub kept : List Bool

-- a plant's graph
abbrev pub graph_of : {B : Type 0} → (B → Meaning) → PlantState B → Graph
graph_of meaning p = record { names = p.graph.names; net = net_of meaning p.graph; caps = p.capacities }

-- a plant, and for each block whether a claim of it is kept
pub record SessionState (B : Type 0) : Type 0 where
  pub plant : PlantState B
  pub kept : List Bool

abbrev pub standing_of : {B : Type 0} → PlantState B → List Bool → Standing
standing_of p kept = record { state = p.state; kept = kept }

abbrev pub standing : {B : Type 0} → SessionState B → Standing
standing s = standing_of s.plant s.kept

-- the same plant in another state
abbrev pub in_state : {B : Type 0} → PlantState B → State → PlantState B
in_state p st = record p { state = st }

-- the same session elsewhere
abbrev pub in_standing : {B : Type 0} → SessionState B → Standing → SessionState B
in_standing s x = record { plant = in_state s.plant x.state; kept = x.kept }

-- no claim is kept
abbrev pub none_kept : {B : Type 0} → PlantState B → List Bool
none_kept p = map (λ _. false) p.graph.blocks

-- whether there is a job
abbrev pub is_there : {J : Type 0} → Option J → Bool
is_there None = false
is_there (Some job) = true

abbrev pub kept_in : {J : Type 0} → List (Option J) → List Bool
kept_in jobs = map is_there jobs

-- a job is the claim of its block that is in flight
pub record IsFlying {B : Type 0} (net : Network) (graph : Flowgraph B) (st : State) (b : ℕ) (job : JobState B) : Type 0
  where
    pub graph_is : job.graph ≡ graph
    pub some : 0 < (progress_at st.progress b).claimed
    pub flight : job.job ≡ in_flight net st b

-- each kept job is, and there is a place for each block
pub record KeepsJobs {B : Type 0} (net : Network) (graph : Flowgraph B) (st : State) (jobs : List (Option (JobState B)))
    : Type 0 where
  pub places : length jobs ≡ length net.nodes
  pub flying : (b : ℕ) → b < length net.nodes → (job : JobState B) → slice_index_or jobs b None ≡ Some job
      → IsFlying net graph st b job

-- the number of the block of this name
abbrev pub block_of : Graph → List ℕ → Option ℕ
block_of g name = position (bytes_eq name) g.names

-- the value that numbers are, where a setting is wanted: a number alone, or taps of 16 bits each
abbrev pub value_for : Wanted → List ℤ → Option Value
value_for (wanted.Number least greatest) [] = None
value_for (wanted.Number least greatest) (z ∷ []) = Some (Number z)
value_for (wanted.Number least greatest) (z ∷ w ∷ zs) = None
value_for (wanted.Taps count) zs = if are_items Short zs then Some (Taps zs) else None

abbrev pub set_value : Network → State → ℕ → Option ℕ → Option Value → Reply × State
set_value net st b at None = (Refused machine.wrong_setting, st)
set_value net st b at (Some v) = machine.set_of net st b at v

abbrev pub set_wanted : Network → State → ℕ → Option ℕ → List ℤ → Option Wanted → Reply × State
set_wanted net st b at zs None = (Refused machine.no_setting, st)
set_wanted net st b at zs (Some w) = set_value net st b at (value_for w zs)

-- a block's setting is set to numbers; it is refused where it has none, where they are no value of it, and where it
-- comes too late
abbrev pub set_numbers : Network → State → ℕ → Option ℕ → List ℤ → Reply × State
set_numbers net st b at zs = set_wanted net st b at zs (node_at net b).meaning.setting

-- what a command is answered: its reply, whether memory may run out before it, and how far the script is then
pub record Answer : Type 0 where
  pub text : List ℕ
  pub wants_memory : Bool
  pub after : Standing

abbrev pub told : Bool → List Bool → Reply × State → Answer
told wants kept now = record {
  text = reply_text now.0;
  wants_memory = wants;
  after = record { state = now.1; kept = kept };
}

-- a call that leaves the kept claims
abbrev pub called : List Bool → Reply × State → Answer
called kept now = told (takes_memory now.0) kept now

-- taps need memory of their own before it is known whether they come too late
abbrev pub taps_wanted : Option Wanted → Reply → Bool
taps_wanted (Some (wanted.Taps count)) (machine.Late floor) = true
taps_wanted _ _ = false

abbrev pub set_answer : Network → Standing → ℕ → Reply × State → Answer
set_answer net s b now = told (takes_memory now.0 || taps_wanted (node_at net b).meaning.setting now.0) s.kept now

-- a claim that is made is kept
abbrev pub kept_by : ℕ → List Bool → Reply → List Bool
kept_by b kept (machine.Claimed job) = slice_set kept b true
kept_by b kept _ = kept

abbrev pub claim_answer : Network → Capacities → Standing → ℕ → ℕ → Answer
claim_answer net caps s b max =
    let now = machine.next net caps s.state (machine.Claim b max) in
    told (takes_memory now.0) (kept_by b s.kept now.0) now

-- a kept claim is given back, and no longer kept; where none is, that is refused
abbrev pub give_back : Standing → ℕ → Reply × State → Answer
give_back s b now =
    if slice_index_or s.kept b false then told false (slice_set s.kept b false) now
    else told false s.kept (Refused machine.foreign, s.state)

abbrev pub commit_answer : Network → Standing → ℕ → Answer
commit_answer net s b = give_back s b (machine.commit_of net s.state true (in_flight net s.state b))

abbrev pub abandon_answer : Network → Standing → ℕ → Answer
abandon_answer net s b = give_back s b (machine.abandon_of net s.state true (in_flight net s.state b))

-- the wait that a plant tells. (It tells one of each block that there is.)
abbrev pub wait_told : Result Wait PlantFault → Wait
wait_told (Ok wait) = wait
wait_told (Err fault) = IsOver

-- the text of a wait
abbrev pub wait_text : List (List ℕ) → Wait → List ℕ
wait_text names IsOver = reply_text machine.Done
wait_text names HasClaim = reply_text machine.Busy
wait_text names MayAct = ready_text
wait_text names ForFeed = waits_feed_text
wait_text names (ForItems port writer) = waits_items_text port (slice_index_or names writer [])
wait_text names (ForRoom port reader) = waits_room_text port (slice_index_or names reader [])

-- what block b waits for is answered, and nothing changes
abbrev pub why_answer : Graph → Standing → ℕ → Answer
why_answer g s b = record { text = wait_text g.names (wait_of g.net g.caps s.state b); wants_memory = false; after = s }

abbrev pub quiet_answer : Graph → Standing → Answer
quiet_answer g s = record { text = quiet_text (machine.is_quiet g.net g.caps s.state); wants_memory = false; after = s }

-- the reply where memory ran out
abbrev pub no_memory : Reply
no_memory = Refused 32

-- the line of a reply
abbrev pub reply_line : Reply → List ℕ
reply_line reply = line_text (reply_text reply)

-- an answer was given; or memory ran out where it may, and all is as before
abbrev pub Gives : Answer → Standing → Standing → List ℕ → Type 0
Gives a old new line = ((line ≡ line_text a.text) × (new ≡ a.after))
    ⊎ ((a.wants_memory ≡ true) × (line ≡ reply_line no_memory) × (new ≡ old))

-- how many firings of a block are stepped at once where all blocks are, at most
abbrev pub turn : ℕ
turn = 65536

abbrev pub settled_line : Settled → List ℕ
settled_line rest.Done = line_text (settle_text true)
settled_line rest.Quiet = line_text (settle_text false)

-- the network settled so, and that is answered
pub record Rests (g : Graph) (st : State) (line : List ℕ) : Type 0 where
  pub how : Settled
  pub settled : HasSettled g.net g.caps st how
  pub whole : HoldsSettled g.net st how
  pub told : line ≡ settled_line how

-- steps of blocks led on, and no block can act any more; or memory ran out, and all is where they led
pub record Stepped (g : Graph) (old new : Standing) (line : List ℕ) : Type 0 where
  pub kept : new.kept ≡ old.kept
  pub steps : StepsLead g.net g.caps turn old.state new.state
  pub idle : machine.is_idle new.state ≡ true
  pub rests : Rests g new.state line ⊎ (line ≡ reply_line no_memory)

-- all blocks are stepped until none can act; while a claim is in flight they are not
abbrev pub Settles : Bool → Graph → Standing → Standing → List ℕ → Type 0
Settles true g old new line = Stepped g old new line
Settles false g old new line = (line ≡ reply_line machine.Busy) × (new ≡ old)

-- a command was answered, where block b has the name in it, and the script went from one standing to the next. One
-- without a name is for all blocks
unfoldable pub AnswersOn : Graph → ℕ → Command → Standing → Standing → List ℕ → Type 0
AnswersOn g b (Feed name xs ms) old new line = Gives (called old.kept (feed_numbers g.net old.state b xs ms)) old new
    line
AnswersOn g b (Close name) old new line = Gives (called old.kept (machine.close_of g.net old.state b)) old new line
AnswersOn g b (Set name at zs) old new line = Gives (set_answer g.net old b (set_numbers g.net old.state b at zs)) old
    new line
AnswersOn g b (Claim name max) old new line = Gives (claim_answer g.net g.caps old b max) old new line
AnswersOn g b (Commit name) old new line = Gives (commit_answer g.net old b) old new line
AnswersOn g b (Abandon name) old new line = Gives (abandon_answer g.net old b) old new line
AnswersOn g b (Step name max) old new line = Gives (called old.kept (machine.step_of g.net g.caps old.state b max)) old
    new line
AnswersOn g b (Read name from max) old new line = Gives (called old.kept (machine.read_of g.net old.state b from max))
    old new line
AnswersOn g b (Why name) old new line = Gives (why_answer g old b) old new line
AnswersOn g b Quiet old new line = Gives (quiet_answer g old) old new line
AnswersOn g b Settle old new line = Settles (machine.is_idle old.state) g old new line

-- the name in a command; the two for all blocks have none
abbrev pub name_in : Command → Option (List ℕ)
name_in (Feed name xs ms) = Some name
name_in (Close name) = Some name
name_in (Set name at zs) = Some name
name_in (Claim name max) = Some name
name_in (Commit name) = Some name
name_in (Abandon name) = Some name
name_in (Step name max) = Some name
name_in (Read name from max) = Some name
name_in (Why name) = Some name
name_in Quiet = None
name_in Settle = None

-- on a block, or there is none
abbrev pub AnswersFound : Graph → Command → Option ℕ → Standing → Standing → List ℕ → Type 0
AnswersFound g c None old new line = Gives (told false old.kept (Refused machine.no_such_block, old.state)) old new line
AnswersFound g c (Some b) old new line = AnswersOn g b c old new line

-- a command without a name is answered whichever block it is asked on
abbrev pub AnswersNamed : Graph → Command → Option (List ℕ) → Standing → Standing → List ℕ → Type 0
AnswersNamed g c None old new line = AnswersOn g 0 c old new line
AnswersNamed g c (Some name) old new line = AnswersFound g c (block_of g name) old new line

-- a command was answered, and the script went from one standing to the next
abbrev pub Answers : Graph → Command → Standing → Standing → List ℕ → Type 0
Answers g c old new line = AnswersNamed g c (name_in c) old new line

-- the same of a session, which stays the same elsewhere
abbrev pub IsAnswered : {B : Type 0} → (B → Meaning) → Command → SessionState B → SessionState B → List ℕ → Type 0
IsAnswered meaning c old new line = (new ≡ in_standing old (standing new))
    × Answers (graph_of meaning old.plant) c (standing old) (standing new) line

-- a refusal of the plant as a line
abbrev pub refusal_reply : PlantFault → Reply
refusal_reply (fault.Late floor) = machine.Late floor
refusal_reply fault = Refused (number_of fault)

abbrev pub refusal_line : PlantFault → List ℕ
refusal_line fault = reply_line (refusal_reply fault)

-- a call on a plant alone was answered: as the machine does now, or memory ran out where it may
abbrev pub Tells : Bool → Reply × State → State → State → List ℕ → Type 0
Tells wants now old new line =
    ((line ≡ reply_line now.0) × (new ≡ now.1)) ⊎ ((wants ≡ true) × (line ≡ reply_line no_memory) × (new ≡ old))

-- the plant went where the call leads, or stayed
abbrev pub Moves : {B : Type 0} → Reply × State → PlantState B → PlantState B → Type 0
Moves now old new = (new ≡ old) ⊎ (new ≡ in_state old now.1)

-- numbers are a value that the setting may have
abbrev pub is_fit : Wanted → Option Value → Bool
is_fit w None = false
is_fit w (Some v) = is_wanted w v

abbrev pub are_taps : Wanted → Bool
are_taps (wanted.Number least greatest) = false
are_taps (wanted.Taps count) = true

-- numbers are this value, which the setting may have; or they are none that it may have, or no memory was there for the
-- taps that they are
abbrev pub IsValueFor : Wanted → List ℤ → Result settings.Value PlantFault → Type 0
IsValueFor w zs (Ok v) = (value_for w zs ≡ Some (value_of v)) × (is_fit w (value_for w zs) ≡ true)
IsValueFor w zs (Err fault.WrongSetting) = is_fit w (value_for w zs) ≡ false
IsValueFor w zs (Err fault.Memory) = (are_taps w ≡ true) × (is_fit w (value_for w zs) ≡ true)
IsValueFor w zs (Err _) = ⊥
