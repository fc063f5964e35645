-- What is recorded of the calls that many callers make of one plant, and that it is a run of the machine.
use Rattle.std.specs.Prelude.{ℕ, ◌≡◌, ◌⊎◌, List, [], ◌∷◌, map, All, Option, Some, None, Bool, true, false}
use Rattle.std.specs.Arc.{arc_value}
use Rattle.stream_model.specs.Network.{Network, State}
use Rattle.stream_model.specs.Machine as machine
use Rattle.stream_model.specs.Machine.{Capacities, Reply, next, run_of}
use Rattle.machine_laws.specs.Stays.{in_flight}
use Rattle.items.specs.Items.{type_of, numbers_of}
use Rattle.settings.specs.Values.{value_of}
use Rattle.plant_storage.specs.Stores.{mark_of}
use Rattle.plant.specs.Answers.{piece_reply, refusal_of}
use Rattle.call_history.specs.declared.entry.CallerId.{CallerId}
use Rattle.call_history.specs.declared.entry.CallerId.TheVariants as caller
use Rattle.call_history.specs.declared.entry.Call.{Call}
use Rattle.call_history.specs.declared.entry.Call.TheVariants as call
use Rattle.call_history.specs.declared.entry.Answer.{Answer}
use Rattle.call_history.specs.declared.entry.Answer.TheVariants as answer
use Rattle.call_history.specs.declared.entry.Entry.{Entry}

-- what was asked of the plant: a call of the machine, or to take back the claim of a block that is in flight, with its
-- work done
pub data Asked : Type 0 where
  Asks : machine.Call → Asked
  Brings : (block : ℕ) → Asked

-- what was said: the machine's reply, of which a claim's first firing and how many are kept
pub data Said : Type 0 where
  Says : Reply → Said
  Hands : (first count : ℕ) → Said

-- a call of a caller with its reply
pub record Noted : Type 0 where
  pub caller : CallerId
  pub asked : Asked
  pub said : Said

-- what an entry records
abbrev pub asked_by : Call → Asked
asked_by (call.Feed f) = let feed = arc_value f in Asks (machine.Feed feed.source.0 (type_of feed.items)
    (numbers_of feed.items) (map mark_of feed.marks.items))
asked_by (call.Close b) = Asks (machine.Close b.0)
asked_by (call.Set s) = let setting = arc_value s in Asks (machine.Set setting.block.0 setting.at
    (value_of setting.value))
asked_by (call.Read sink from max) = Asks (machine.Read sink.0 from max)
asked_by (call.Claim b max) = Asks (machine.Claim b.0 max)
asked_by (call.Commit b) = Brings b.0

abbrev pub refused_as : Option Reply → Said
refused_as None = Says (machine.Refused 32)
refused_as (Some reply) = Says reply

abbrev pub said_by : Answer → Said
said_by (answer.Fed total) = Says (machine.Fed total)
said_by (answer.Closed total) = Says (machine.Closed total)
said_by (answer.Taken at) = Says (machine.Taken at)
said_by (answer.Piece p) = Says (piece_reply (arc_value p))
said_by (answer.Claimed first count) = Hands first count
said_by answer.Done = Says machine.Done
said_by (answer.Did count) = Says (machine.Did count)
said_by (answer.Refused fault) = refused_as (refusal_of fault)

abbrev pub noted_by : Entry → Noted
noted_by e = record { caller = e.caller; asked = asked_by e.call; said = said_by e.reply }

-- what is recorded of a reply
abbrev pub said_of : Reply → Said
said_of (machine.Claimed job) = Hands job.first job.count
said_of (machine.Fed total) = Says (machine.Fed total)
said_of (machine.Closed total) = Says (machine.Closed total)
said_of (machine.Taken at) = Says (machine.Taken at)
said_of machine.Done = Says machine.Done
said_of machine.Busy = Says machine.Busy
said_of (machine.WaitingItems p) = Says (machine.WaitingItems p)
said_of (machine.WaitingRoom p) = Says (machine.WaitingRoom p)
said_of (machine.Did count) = Says (machine.Did count)
said_of machine.Abandoned = Says machine.Abandoned
said_of (machine.Piece from held items tags done) = Says (machine.Piece from held items tags done)
said_of (machine.Refused code) = Says (machine.Refused code)
said_of (machine.Late floor) = Says (machine.Late floor)

-- the call of the machine that was made in a state
abbrev pub call_in : Network → State → Asked → machine.Call
call_in net st (Asks call) = call
call_in net st (Brings b) = machine.Commit true (in_flight net st b)

-- the calls of the machine that a history records, from a state on
abbrev pub calls_from : Network → Capacities → State → List Noted → List machine.Call
calls_from net caps st [] = []
calls_from net caps st (n ∷ ns) = let call = call_in net st n.asked in call ∷ calls_from net caps
    (next net caps st call).1 ns

-- a history is a run of the machine: its replies are those of its calls, one after another, and the last state is what
-- they leave
pub record IsRunOf (net : Network) (caps : Capacities) (from : State) (history : List Noted) (last : State) : Type 0
  where
    pub replies : map said_of (run_of net caps from (calls_from net caps from history)).0 ≡ map (λ n. n.said) history
    pub left : last ≡ (run_of net caps from (calls_from net caps from history)).1

-- a call that is made at desks: it feeds, closes, sets or reads
abbrev pub is_at_desks : Asked → Bool
is_at_desks (Asks (machine.Feed b item numbers marks)) = true
is_at_desks (Asks (machine.Close b)) = true
is_at_desks (Asks (machine.Set b at value)) = true
is_at_desks (Asks (machine.Claim b max)) = false
is_at_desks (Asks (machine.Commit own job)) = false
is_at_desks (Asks (machine.Abandon own job)) = false
is_at_desks (Asks (machine.Read sink from max)) = true
is_at_desks (Brings b) = false

-- a call that its caller may make: a worker claims for its own block, or brings work of it, and nothing else
abbrev pub MayAsk : CallerId → Asked → Type 0
MayAsk (caller.Desk n) asked = is_at_desks asked ≡ true
MayAsk (caller.Worker b) asked = ((max : ℕ) × (asked ≡ Asks (machine.Claim b.0 max))) ⊎ (asked ≡ Brings b.0)

-- each call is one that its caller may make
abbrev pub AreOwn : List Noted → Type 0
AreOwn = All (λ (n : Noted). MayAsk n.caller n.asked)
