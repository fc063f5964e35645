-- What a contract says of a pipeline that went from one state to another.
use Rattle.std.specs.Prelude.{ℕ, List, Bool, Option}
use Rattle.std.specs.Io.KnownBytes.{Appends}
use Rattle.byte_io.specs.Ends.{AppendsBeginning}
use Rattle.stream_model.specs.Meaning.{Meaning}
use Rattle.stream_model.specs.Machine.{IsWhole}
use Rattle.flowgraph.specs.Flowgraph.{net_of}
use Rattle.plant.specs.declared.answers.Settled.{Settled}
use Rattle.plant.specs.Settling.{HasSettled}
use Rattle.pipeline.specs.declared.pipeline.Pipeline.{Pipeline}
use Rattle.pipeline.specs.declared.requests.Answer.{Answer}
use Rattle.pipeline.specs.declared.requests.Ended.{Ended}
use Rattle.pipeline.specs.declared.requests.Request.{Request}
use Rattle.pipeline.specs.Asking.{IsNext}
use Rattle.pipeline.specs.Pipeline.{AreDelivered, AreDeliveredBeside, Begins, GoesOn, IsDelivered, NoneLacks, end_at}
use Rattle.pipeline.specs.Requests.{BeginsAsked, GoesOnAsked, HasEnded, Streams}

-- it went on
abbrev pub GoesFrom : {B R W P : Type 0} → (R → Option (List ℕ)) → (W → Option (List ℕ)) → (B → Meaning)
    → (old new : Pipeline B R W P) → Type 0
GoesFrom remaining contents meaning old new = GoesOn remaining contents (net_of meaning old.plant.plant.graph) old.plant
    new.plant old.ends.items new.ends.items

-- it went on, up to a fault
abbrev pub BeginsFrom : {B R W P : Type 0} → (R → Option (List ℕ)) → (W → Option (List ℕ)) → (B → Meaning)
    → (old new : Pipeline B R W P) → Type 0
BeginsFrom remaining contents meaning old new = Begins remaining contents (net_of meaning old.plant.plant.graph)
    old.plant new.plant old.ends.items new.ends.items

-- it went on, and answered what it was asked
abbrev pub GoesAsked : {B R W P C : Type 0} → (R → Option (List ℕ)) → (W → Option (List ℕ)) → (C → List Request)
    → (C → List Answer) → (B → Meaning) → Option Ended → (box box' : C) → (old new : Pipeline B R W P) → Type 0
GoesAsked remaining contents asked answered meaning end box box' old new = GoesOnAsked remaining contents asked answered
    (net_of meaning old.plant.plant.graph) end box box' old.plant new.plant old.ends.items new.ends.items

-- the same, up to a fault
abbrev pub BeginsAskedFrom : {B R W P C : Type 0} → (R → Option (List ℕ)) → (W → Option (List ℕ)) → (C → List Request)
    → (C → List Answer) → (B → Meaning) → (box box' : C) → (old new : Pipeline B R W P) → Type 0
BeginsAskedFrom remaining contents asked answered meaning box box' old new = BeginsAsked remaining contents asked
    answered (net_of meaning old.plant.plant.graph) box box' old.plant new.plant old.ends.items new.ends.items

-- what was written meanwhile is what was drained of the streams, by the tapes and settings at the end
abbrev pub StreamsFrom : {B R W P : Type 0} → (W → Option (List ℕ)) → (B → Meaning) → (old new : Pipeline B R W P)
    → Type 0
StreamsFrom contents meaning old new = Streams Appends contents (net_of meaning old.plant.plant.graph) old.plant
    new.plant old.ends.items new.ends.items

-- it is a beginning of that
abbrev pub StreamsBegin : {B R W P : Type 0} → (W → Option (List ℕ)) → (B → Meaning) → (old new : Pipeline B R W P)
    → Type 0
StreamsBegin contents meaning old new = Streams AppendsBeginning contents (net_of meaning old.plant.plant.graph)
    old.plant new.plant old.ends.items new.ends.items

-- its plant came to rest
abbrev pub IsSettled : {B R W P : Type 0} → (B → Meaning) → Pipeline B R W P → Settled → Type 0
IsSettled meaning p settled = HasSettled (net_of meaning p.plant.plant.graph) p.plant.plant.capacities
    p.plant.plant.state settled

-- it ended so
abbrev pub IsEnded : {B R W P : Type 0} → (B → Meaning) → Pipeline B R W P → Ended → Type 0
IsEnded meaning p ended = HasEnded (net_of meaning p.plant.plant.graph) p.plant.plant.capacities p.plant.plant.state
    ended

-- its sinks have taken their whole streams
abbrev pub HoldsWhole : {B R W P : Type 0} → (B → Meaning) → Pipeline B R W P → Type 0
HoldsWhole meaning p = IsWhole (net_of meaning p.plant.plant.graph) p.plant.plant.state

-- each sink with an output was drained of all that it has taken
abbrev pub AllDelivered : {B R W P : Type 0} → (B → Meaning) → Pipeline B R W P → Type 0
AllDelivered meaning p = AreDelivered (net_of meaning p.plant.plant.graph) p.plant p.ends.items

-- so were those alone that are not held back
abbrev pub OthersDelivered : {B R W P : Type 0} → List Bool → (B → Meaning) → Pipeline B R W P → Type 0
OthersDelivered held meaning p = AreDeliveredBeside held (net_of meaning p.plant.plant.graph) p.plant p.ends.items

-- no source lacks items whose reader has more
abbrev pub NothingLacks : {B R W P : Type 0} → (B → Meaning) → Pipeline B R W P → Type 0
NothingLacks meaning p = NoneLacks (net_of meaning p.plant.plant.graph) p.plant p.ends.items

-- a source is the one to be fed next
abbrev pub IsNextOf : {B R W P : Type 0} → (B → Meaning) → Pipeline B R W P → ℕ → Type 0
IsNextOf meaning p source = IsNext (net_of meaning p.plant.plant.graph) p.plant p.ends.items source

-- of block b alone, all that it has taken was drained, where it has an output
abbrev pub DeliveredAt : {B R W P : Type 0} → Pipeline B R W P → ℕ → Type 0
DeliveredAt p b = IsDelivered p.plant b (end_at p.ends.items b)
