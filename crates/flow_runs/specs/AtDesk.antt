-- What commands do at the desk of a plant at work, and what they are answered.
use Rattle.std.specs.Prelude.{ℕ, ℤ, ◌≡◌, List, position, bytes_eq, Option, Some, None, not, if◌then◌else◌, Result, Ok, Err}
use Rattle.stream_model.specs.declared.vocabulary.Wanted.{Wanted}
use Rattle.stream_model.specs.Settings.{Value}
use Rattle.stream_model.specs.Tags.{Mark}
use Rattle.stream_model.specs.Meaning.{Meaning}
use Rattle.stream_model.specs.Network.{Network, node_at, role_at, is_source}
use Rattle.stream_model.specs.Machine as machine
use Rattle.stream_model.specs.Machine.{Reply, Refused}
use Rattle.flowgraph.specs.Flowgraph.{Flowgraph, net_of}
use Rattle.items.specs.Items.{type_of, numbers_of}
use Rattle.items.specs.declared.stream_items.Items.{Items}
use Rattle.plant_faults.specs.declared.fault.PlantFault.{PlantFault}
use Rattle.plant_faults.specs.declared.fault.PlantFault.TheVariants as fault
use Rattle.plant.specs.Feeding.{are_items, given_type}
use Rattle.call_history.specs.History.{Asks, Noted}
use Rattle.call_history.specs.Desk.{DeskState, IsLogged, opened_at}
use Rattle.script_text.specs.Grammar.{Command, Feed, Close, Set, Claim, Commit, Abandon, Step, Read, Why, Quiet, Settle}
use Rattle.flow_core.specs.Session.{value_for, is_fit, reply_line, no_memory}

-- what comes of a command before a call is made: it is refused, or there is a call to make
pub data Request : Type 0 where
  Refuses : (code : ℕ) → Request
  Makes : (call : machine.Call) → Request

-- a source is fed numbers as items of its type
abbrev pub feed_request : Network → ℕ → List ℤ → List Mark → Request
feed_request net b xs ms =
    if not (is_source (role_at net b)) then Refuses machine.not_source
    else (if are_items (given_type net b) xs then Makes (machine.Feed b (given_type net b) xs ms)
    else Refuses machine.item_range)

-- a setting is set to the value that numbers are, where it may have that
abbrev pub value_request : ℕ → Option ℕ → Option Value → Request
value_request b at None = Refuses machine.wrong_setting
value_request b at (Some v) = Makes (machine.Set b at v)

abbrev pub set_request : ℕ → Option ℕ → List ℤ → Option Wanted → Request
set_request b at zs None = Refuses machine.no_setting
set_request b at zs (Some w) = if is_fit w (value_for w zs) then value_request b at (value_for w zs) else Refuses
    machine.wrong_setting

-- of a block that is found by its name, or none is
abbrev pub found_at : (ℕ → Request) → Option ℕ → Request
found_at request None = Refuses machine.no_such_block
found_at request (Some b) = request b

abbrev pub found : List (List ℕ) → List ℕ → (ℕ → Request) → Request
found names name request = found_at request (position (bytes_eq name) names)

-- items that a source may be fed, or why there are none for these numbers
abbrev pub AreFor : Network → ℕ → List ℤ → Result Items PlantFault → Type 0
AreFor net b zs (Ok items) = (ms : List Mark) → feed_request net b zs ms
    ≡ Makes (machine.Feed b (type_of items) (numbers_of items) ms)
AreFor net b zs (Err fault.NotSource) = (ms : List Mark) → feed_request net b zs ms ≡ Refuses machine.not_source
AreFor net b zs (Err fault.ItemRange) = (ms : List Mark) → feed_request net b zs ms ≡ Refuses machine.item_range
AreFor net b zs (Err fault.Memory) = (ms : List Mark) → feed_request net b zs ms
    ≡ Makes (machine.Feed b (given_type net b) zs ms)
AreFor net b zs (Err _) = ⊥

-- the reply that is given: the one that there is, or that memory ran out
abbrev pub told_reply : Option Reply → Reply
told_reply None = no_memory
told_reply (Some reply) = reply

-- a refusal is given, or the call is made: it joins the desk's log with the reply that is given. Or memory ran out, and
-- no call was made
abbrev pub Follows : {B : Type 0} → Request → DeskState B → DeskState B → List ℕ → Type 0
Follows (Refuses code) old new line = (new ≡ old) × (line ≡ reply_line (Refused code))
Follows (Makes call) old new line = (reply : Option Reply) × IsLogged (Asks call) old new reply
    × (line ≡ reply_line (told_reply reply))

-- what a command is answered at a desk. No claim is made there, and nothing is asked of the plant as a whole
abbrev pub AtDesk : {B : Type 0} → (B → Meaning) → Command → DeskState B → DeskState B → List ℕ → Type 0
AtDesk meaning (Feed name xs ms) old new line = Follows (found old.graph.names name
    (λ b. feed_request (net_of meaning old.graph) b xs ms)) old new line
AtDesk meaning (Close name) old new line = Follows (found old.graph.names name (λ b. Makes (machine.Close b))) old new
    line
AtDesk meaning (Set name at zs) old new line = Follows (found old.graph.names name
    (λ b. set_request b at zs (node_at (net_of meaning old.graph) b).meaning.setting)) old new line
AtDesk meaning (Read name from max) old new line = Follows (found old.graph.names name
    (λ b. Makes (machine.Read b from max))) old new line
AtDesk meaning (Claim name max) old new line = ⊥
AtDesk meaning (Commit name) old new line = ⊥
AtDesk meaning (Abandon name) old new line = ⊥
AtDesk meaning (Step name max) old new line = ⊥
AtDesk meaning (Why name) old new line = ⊥
AtDesk meaning Quiet old new line = ⊥
AtDesk meaning Settle old new line = ⊥

-- the same desk with another log
abbrev pub with_log : {B : Type 0} → DeskState B → List Noted → DeskState B
with_log desk log = record desk { log = log }

-- the one desk of a live run, before its lines
abbrev pub live_desk : {B : Type 0} → Flowgraph B → DeskState B
live_desk graph = opened_at graph 0
