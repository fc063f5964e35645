-- A plant responds to a request, and the record stays one.
use Rattle.std.proofs.Common.{◌≡◌, map, true, refl}
use Rattle.std.specs.Arc.{arc_value}
use Rattle.stream_model.specs.Network.{Network, State}
use Rattle.stream_model.specs.Machine.{Capacities, next}
use Rattle.items.specs.Items.{type_of, numbers_of}
use Rattle.settings.specs.Values.{value_of}
use Rattle.plant_storage.specs.Stores.{mark_of}
use Rattle.call_history.specs.declared.request.Request.{Request}
use Rattle.call_history.specs.declared.request.Request.TheVariants as request
use Rattle.call_history.specs.History.{call_in, is_at_desks}
use Rattle.call_history.specs.Recorded.{flights_in}
use Rattle.call_history.specs.Request.{asked_of}
use Rattle.call_history.proofs.Flights.{fed_same, closed_same, read_same, set_same}

-- a request leaves all claims in flight
pub asked_same : (net : Network) (caps : Capacities) (st : State) (r : Request) → flights_in (next net caps st (call_in net st (asked_of r))).1 ≡ flights_in st
asked_same net caps st (request.Feed f) = let feed = arc_value f in fed_same net st feed.source.0 (type_of feed.items) (numbers_of feed.items) (map mark_of feed.marks.items)
asked_same net caps st (request.Close source) = closed_same net st source.0
asked_same net caps st (request.Set s value) = let setting = arc_value s in set_same net st setting.block.0 setting.at (value_of setting.value)
asked_same net caps st (request.Read sink from max) = read_same net st sink.0 from max

-- a request is a call that is made at desks
pub asked_at_desks : (r : Request) → is_at_desks (asked_of r) ≡ true
asked_at_desks (request.Feed f) = refl
asked_at_desks (request.Close source) = refl
asked_at_desks (request.Set s value) = refl
asked_at_desks (request.Read sink from max) = refl
