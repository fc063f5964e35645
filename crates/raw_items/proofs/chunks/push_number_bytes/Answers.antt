use Rattle.std.proofs.Common.{map}
use Rattle.std.proofs.lemmas.List.Elements.{All-map}
use Rattle.stream_model.specs.Numbers.{IsItem}
use Rattle.raw_items.proofs.RoundTrips.{items_of-all_bytes_of}
use Rattle.raw_items.proofs.chunks.push_number_bytes.Goals as goal

pub returns-clause-round_trip : goal.returns-clause-round_trip
returns-clause-round_trip g c =
    let t = g.T.Number.kind in
    let numbers = c.args.numbers.now in
    items_of-all_bytes_of t c.args.order (map g.T.Number.number numbers) (All-map (IsItem t) g.T.Number.number numbers c.write_bytes.ensures.in_range)
