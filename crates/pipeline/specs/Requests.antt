-- What a pipeline is asked while it runs, and what comes of it.
use Rattle.std.specs.Prelude.{ℕ, ◌≡◌, ◌<◌, ◌≤◌, All, Bool, true, false, List, [], ◌∷◌, ◌++◌, length, map, Option, Some, None, Result, Ok, Err, ⊤}
use Rattle.std.specs.Io.KnownBytes.{Appends}
use Rattle.stream_model.specs.Machine as machine
use Rattle.stream_model.specs.Machine.{Capacities, close_of, set_of}
use Rattle.stream_model.specs.Network.{Network, State, role_at, is_keeper}
use Rattle.settings.specs.Values.{value_of}
use Rattle.plant.specs.Answers.{Answered, AnsweredAlways, AnsweredBy, reply_of}
use Rattle.plant.specs.Settling.{HasSettled}
use Rattle.plant_faults.specs.declared.fault.PlantFault.{PlantFault}
use Rattle.streaming.specs.declared.levels.Levels.{Levels}
use Rattle.streaming.specs.Levels.{levels_at}
use Rattle.streaming.specs.Streaming.{StreamingState, drained}
use Rattle.pipeline.specs.declared.end.End.{End}
use Rattle.pipeline.specs.declared.end.End.TheVariants as ends
use Rattle.pipeline.specs.declared.requests.Answer.{Answer}
use Rattle.pipeline.specs.declared.requests.Ended.{Ended}
use Rattle.pipeline.specs.declared.requests.Ended.TheVariants as ended
use Rattle.pipeline.specs.declared.requests.Request.{Request}
use Rattle.pipeline.specs.declared.requests.Request.TheVariants as request
use Rattle.pipeline.specs.declared.requests.Told.{Told}
use Rattle.pipeline.specs.declared.requests.Told.TheVariants as told
use Rattle.pipeline.specs.Pipeline.{Begins, GoesOn, Growth, HasWritten, KeepsDrained, end_at}

-- a request and its answer
pub record Exchange : Type 0 where
  pub request : Request
  pub answer : Answer

-- these requests were taken out of a box, and each was answered, in their order
pub record AreAnswered {C : Type 0} (asked : C → List Request) (answered : C → List Answer) (old new : C)
    (xs : List Exchange) : Type 0 where
  pub taken : asked new ≡ asked old ++ map Exchange.request xs
  pub given : answered new ≡ answered old ++ map Exchange.answer xs

-- a request is a call of the plant, which replied so
abbrev pub IsCall : {B : Type 0} → Network → (old new : StreamingState B) → Request → Told → Type 0
IsCall net old new (request.Set b at v) (told.Set r) = Answered (set_of net old.plant.state b.0 at (value_of v))
    old.plant new.plant (reply_of (λ t. machine.Taken t.0) r)
IsCall net old new (request.Close b) (told.Closed r) = AnsweredAlways (close_of net old.plant.state b.0) old.plant
    new.plant (reply_of (λ c. machine.Closed c.0) r)
IsCall net old new (request.Levels b) (told.Levels r) = (r ≡ levels_at net old.plant.state b.0)
    × (new.plant ≡ old.plant)
IsCall net old new request.Stop told.Stopped = new.plant ≡ old.plant
IsCall net old new _ _ = ⊥

-- how far the block is that a request is for, where it is for one that there is
abbrev pub come_in : Result Levels PlantFault → ℕ
come_in (Ok levels) = levels.taken
come_in (Err fault) = 0

abbrev pub come_for : Network → State → Request → ℕ
come_for net st (request.Set b at v) = come_in (levels_at net st b.0)
come_for net st (request.Close b) = come_in (levels_at net st b.0)
come_for net st (request.Levels b) = come_in (levels_at net st b.0)
come_for net st request.Stop = 0

-- what a plant in this state replies to a request, or that memory ran out for it
abbrev pub IsReply : Network → State → Request → Told → Type 0
IsReply net st (request.Set b at v) (told.Set r) = AnsweredBy (set_of net st b.0 at (value_of v))
    (reply_of (λ t. machine.Taken t.0) r)
IsReply net st (request.Close b) (told.Closed r) = reply_of (λ c. machine.Closed c.0) r ≡ Some (close_of net st b.0).0
IsReply net st (request.Levels b) (told.Levels r) = r ≡ levels_at net st b.0
IsReply net st request.Stop told.Stopped = ⊤
IsReply net st _ _ = ⊥

-- an answer to a request: there is a plant that replies so in some state, with how far the block is there
abbrev pub IsAnswer : Request → Answer → Type 0
IsAnswer request answer = ∥ ((net : Network) × (st : State) × IsReply net st request answer.told
    × (answer.come ≡ come_for net st request)) ∥₁

-- a plant was asked, and answered: nothing but its state is another, and what was drained stays the beginning of each
-- stream
pub record Answers {B : Type 0} (net : Network) (old new : StreamingState B) (x : Exchange) : Type 0 where
  pub same : new.plant ≡ record old.plant { state = new.plant.state }
  pub call : IsCall net old new x.request x.answer.told
  pub come : x.answer.come ≡ come_for net old.plant.state x.request
  pub kept : new.kept ≡ old.kept
  pub stays : KeepsDrained net old new

-- what becomes of a pipeline
abbrev pub Course : Type 0 → Type 0 → Type 0 → Type 1
Course R W B = (old new : StreamingState B) → (es es' : List (End R W)) → Type 0

-- a pipeline went on, was asked this and answered, and so on for each of them, and then took its last course
abbrev pub Asked : {R W B : Type 0} → (R → Option (List ℕ)) → (W → Option (List ℕ)) → Network → Course R W B
    → List Exchange → (old new : StreamingState B) → (es es' : List (End R W)) → Type 0
Asked remaining contents net Last [] old new es es' = Last old new es es'
Asked remaining contents net Last (x ∷ xs) old new es es' =
    (before : StreamingState _) × (after : StreamingState _) × (fs : List (End _ _))
    × GoesOn remaining contents net old before es fs × Answers net before after x
    × Asked remaining contents net Last xs after new fs es'

-- what a pipeline does last. Behind a stop it writes, and no block fires, nor is a source handed anything
abbrev pub LastOf : {R W B : Type 0} → (R → Option (List ℕ)) → (W → Option (List ℕ)) → Network → Option Ended
    → Course R W B
LastOf remaining contents net None old new es es' = GoesOn remaining contents net old new es es'
LastOf remaining contents net (Some (ended.Settled settled)) old new es es' = GoesOn remaining contents net old new es
    es'
LastOf remaining contents net (Some ended.Stopped) old new es es' = GoesOn remaining contents net old new es es'
    × (new.plant ≡ old.plant)

-- nobody asked to stop
abbrev pub is_stop : Request → Bool
is_stop (request.Set b at v) = false
is_stop (request.Close b) = false
is_stop (request.Levels b) = false
is_stop request.Stop = true

abbrev pub NoneStops : List Exchange → Type 0
NoneStops xs = All (λ x. is_stop x.request ≡ false) xs

-- a stop is the last that is answered, and ends the run
abbrev pub EndsBy : List Exchange → Ended → Type 0
EndsBy xs ended.Stopped = (ys : List Exchange) × (x : Exchange) × NoneStops ys × (is_stop x.request ≡ true)
    × (xs ≡ ys ++ x ∷ [])
EndsBy xs (ended.Settled settled) = NoneStops xs

-- the same of a run that may go on
abbrev pub MayEndBy : List Exchange → Option Ended → Type 0
MayEndBy xs None = NoneStops xs
MayEndBy xs (Some end) = EndsBy xs end

-- a pipeline went on, and answered what it was asked
pub record GoesOnAsked {R W B C : Type 0} (remaining : R → Option (List ℕ)) (contents : W → Option (List ℕ))
    (asked : C → List Request) (answered : C → List Answer) (net : Network) (end : Option Ended) (box box' : C)
    (old new : StreamingState B) (es es' : List (End R W)) : Type 0 where
  pub exchanges : List Exchange
  pub are : AreAnswered asked answered box box' exchanges
  pub goes : Asked remaining contents net (LastOf remaining contents net end) exchanges old new es es'
  pub ends : MayEndBy exchanges end

-- the same of one that a fault stopped, maybe behind a stop
pub record BeginsAsked {R W B C : Type 0} (remaining : R → Option (List ℕ)) (contents : W → Option (List ℕ))
    (asked : C → List Request) (answered : C → List Answer) (net : Network) (box box' : C) (old new : StreamingState B)
    (es es' : List (End R W)) : Type 0 where
  pub exchanges : List Exchange
  pub are : AreAnswered asked answered box box' exchanges
  pub begins : Asked remaining contents net (Begins remaining contents net) exchanges old new es es'
  pub end : Option Ended
  pub ends : MayEndBy exchanges end

-- what was written to the writers of block b, in all, is what was drained of its stream by the tapes and settings as
-- they are now
abbrev pub HasWrittenTo : {R W B : Type 0} → Growth → (W → Option (List ℕ)) → Network → (old new : StreamingState B) → ℕ
    → End R W → End R W → Type 0
HasWrittenTo Grows contents net old new b ends.Open ends.Open = ⊤
HasWrittenTo Grows contents net old new b (ends.Input i) (ends.Input i') = ⊤
HasWrittenTo Grows contents net old new b (ends.Output o) (ends.Output o') =
    b < length net.nodes → is_keeper (role_at net b) ≡ true → HasWritten Grows contents net new.plant.state b
    (drained old b) (drained new b) o o'
HasWrittenTo Grows contents net old new b _ _ = ⊥

pub record Streams {R W B : Type 0} (Grows : Growth) (contents : W → Option (List ℕ)) (net : Network)
    (old new : StreamingState B) (es es' : List (End R W)) : Type 0 where
  pub count : length es' ≡ length es
  pub rises : (b : ℕ) → drained old b ≤ drained new b
  pub stays : KeepsDrained net old new
  pub each : (b : ℕ) → b < length es → HasWrittenTo Grows contents net old new b (end_at es b) (end_at es' b)

-- how it ended: where it came to rest, that is so
abbrev pub HasEnded : Network → Capacities → State → Ended → Type 0
HasEnded net caps st (ended.Settled settled) = HasSettled net caps st settled
HasEnded net caps st ended.Stopped = ⊤
