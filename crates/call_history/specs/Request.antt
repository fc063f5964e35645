-- What callers ask of a plant, and what it responds.
use Rattle.std.specs.Prelude.{ℕ, ◌≡◌, ⊤, Bool, true, false, Option, Some, None, Result, Ok, Err}
use Rattle.std.specs.Arc.{arc_value}
use Rattle.std.specs.Option.{option_map}
use Rattle.stream_model.specs.Meaning.{Meaning}
use Rattle.stream_model.specs.Network.{State}
use Rattle.stream_model.specs.Machine as machine
use Rattle.stream_model.specs.Machine.{Reply, next}
use Rattle.plant_laws.specs.Calls.{tells_change}
use Rattle.settings.specs.Values.{value_of}
use Rattle.flowgraph.specs.Flowgraph.{net_of}
use Rattle.plant.specs.Answers.{piece_reply, refusal_of}
use Rattle.plant.specs.Plant.{PlantState}
use Rattle.call_history.specs.declared.entry.Call.TheVariants as call
use Rattle.call_history.specs.declared.entry.Answer.{Answer}
use Rattle.call_history.specs.declared.request.Request.{Request}
use Rattle.call_history.specs.declared.request.Request.TheVariants as request
use Rattle.call_history.specs.declared.request.Response.{Response}
use Rattle.call_history.specs.declared.request.Response.TheVariants as response
use Rattle.call_history.specs.History.{Asked, asked_by, call_in, said_by, said_of}

-- the call that a request is
abbrev pub asked_of : Request → Asked
asked_of (request.Feed feed) = asked_by (call.Feed feed)
asked_of (request.Close source) = asked_by (call.Close source)
asked_of (request.Set setting value) = asked_by (call.Set setting)
asked_of (request.Read sink from max) = asked_by (call.Read sink from max)

-- the block that a request is about
abbrev pub block_of : Request → ℕ
block_of (request.Feed feed) = (arc_value feed).source.0
block_of (request.Close source) = source.0
block_of (request.Set setting value) = (arc_value setting).block.0
block_of (request.Read sink from max) = sink.0

-- the value that a plant takes is that of the setting
abbrev pub IsReady : Request → Type 0
IsReady (request.Feed feed) = ⊤
IsReady (request.Close source) = ⊤
IsReady (request.Set setting value) = value_of value ≡ value_of (arc_value setting).value
IsReady (request.Read sink from max) = ⊤

-- the reply that a response is, unless it is out of memory
abbrev pub response_reply : Response → Option Reply
response_reply (response.Fed fed) = Some (machine.Fed fed.0)
response_reply (response.Closed closed) = Some (machine.Closed closed.0)
response_reply (response.Taken taken) = Some (machine.Taken taken.0)
response_reply (response.Piece piece) = Some (piece_reply (arc_value piece))
response_reply (response.Refused fault) = refusal_of fault

-- a response of this sort is one to a request of this sort
abbrev pub fits : Request → Response → Bool
fits (request.Feed feed) (response.Fed fed) = true
fits (request.Close source) (response.Closed closed) = true
fits (request.Set setting value) (response.Taken taken) = true
fits (request.Read sink from max) (response.Piece piece) = true
fits asked (response.Refused fault) = true
fits asked given = false

-- what the machine answers now, and the state after it
abbrev pub now_at : {B : Type 0} → (B → Meaning) → PlantState B → Asked → Reply × State
now_at meaning p asked = let net = net_of meaning p.graph in next net p.capacities p.state (call_in net p.state asked)

-- whether a reply, where there is one, tells of a change
abbrev pub tells : Option Reply → Bool
tells None = false
tells (Some reply) = tells_change reply

-- the reply in a result, unless it is out of memory
abbrev pub replied : {A E : Type 0} → (A → Option Reply) → Result A E → Option Reply
replied reply (Ok it) = reply it
replied reply (Err e) = None

-- a response to this request, and what is noted of it
pub record AreFor (asked : Request) (given : Response) (written : Answer) : Type 0 where
  pub sort : fits asked given ≡ true
  pub noted : Some (said_by written) ≡ option_map said_of (response_reply given)
