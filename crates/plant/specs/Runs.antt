-- Calls of a plant, one after another.
use Rattle.std.specs.Prelude.{◌≡◌, ◌⊎◌, List, [], ◌∷◌, Option, Some, None}
use Rattle.stream_model.specs.Network.{Network, State}
use Rattle.stream_model.specs.Machine.{Call, Feed, Close, Set, Claim, Commit, Abandon, Read, Reply, Refused, foreign, next, run_of}
use Rattle.plant.specs.Plant.{PlantState}
use Rattle.plant.specs.Answers.{Answered, AnsweredAlways, AnsweredBy}

-- a call that was made, and its reply: none where it is out of memory
pub record Made : Type 0 where
  pub call : Call
  pub reply : Option Reply

-- work that was handed in was taken back as by the machine, or returned and nothing changed
abbrev pub IsBroughtBack : {B : Type 0} → Reply × State → PlantState B → PlantState B → Option Reply → Type 0
IsBroughtBack now old new reply = AnsweredAlways now old new reply
    ⊎ ((reply ≡ Some (Refused foreign)) × (now.0 ≡ Refused foreign) × (new ≡ old))

-- what the contract of each call says of the plant before it, the plant behind it, and its reply
abbrev pub Says : {B : Type 0} → Call → Reply × State → PlantState B → PlantState B → Option Reply → Type 0
Says (Feed b t xs ms) now old new reply = Answered now old new reply
Says (Close b) now old new reply = AnsweredAlways now old new reply
Says (Set b at v) now old new reply = Answered now old new reply
Says (Claim b max) now old new reply = Answered now old new reply
Says (Commit own job) now old new reply = IsBroughtBack now old new reply
Says (Abandon own job) now old new reply = IsBroughtBack now old new reply
Says (Read b from max) now old new reply = AnsweredBy now reply × (new ≡ old)

-- these calls were made on a plant of the network, one after another, and left the new one
abbrev pub Leads : {B : Type 0} → Network → PlantState B → List Made → PlantState B → Type 0
Leads net old [] new = new ≡ old
Leads {B} net old (m ∷ ms) new = (mid : PlantState B) × Says m.call (next net old.capacities old.state m.call) old mid
    m.reply × Leads net mid ms new

-- the calls that were not out of memory, and their replies
abbrev pub with_call : Option Reply → Call → List Call → List Call
with_call None call calls = calls
with_call (Some reply) call calls = call ∷ calls

abbrev pub answered_calls : List Made → List Call
answered_calls [] = []
answered_calls (m ∷ ms) = with_call m.reply m.call (answered_calls ms)

abbrev pub with_reply : Option Reply → List Reply → List Reply
with_reply None replies = replies
with_reply (Some reply) replies = reply ∷ replies

abbrev pub replies_to : List Made → List Reply
replies_to [] = []
replies_to (m ∷ ms) = with_reply m.reply (replies_to ms)

-- they are a run of the machine: replies and state are those of the calls that were not out of memory
pub record IsRun {B : Type 0} (net : Network) (old : PlantState B) (made : List Made) (new : PlantState B) : Type 0
  where
    pub replies : replies_to made ≡ (run_of net old.capacities old.state (answered_calls made)).0
    pub left : new ≡ record old { state = (run_of net old.capacities old.state (answered_calls made)).1 }
