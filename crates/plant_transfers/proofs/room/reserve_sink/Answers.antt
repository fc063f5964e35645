use Rattle.std.proofs.Common.{get_or}
use Rattle.std.proofs.Math.Seq.{map-set_same}
use Rattle.plant_storage.specs.Stores.{collected_of}
use Rattle.plant_transfers.proofs.Rooms.{same_sink}
use Rattle.plant_transfers.proofs.room.reserve_sink.Goals as goal

pub returns-clause-stored : goal.returns-clause-stored
returns-clause-stored c =
    let old = get_or c.args.sinks.now c.args.at c.index-sinks-at.result in
    map-set_same collected_of c.args.sinks.now c.args.at c.reserve.new.self c.index-sinks-at.result
    (same_sink c.reserve.new.self old c.reserve.ensures.item c.reserve.ensures.from c.reserve.ensures.items c.reserve.ensures.tags)
