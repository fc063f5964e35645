use Rattle.std.proofs.Common.{◌≡◌, length, arith}
use Rattle.rates.specs.Answer.{sizes_of}
use Rattle.magbelu_c.specs.Rooms.{room_on}
use Rattle.magbelu_c.proofs.TableRows.{one_more, all_rows}
use Rattle.magbelu_c.proofs.rooms.rooms_in.Goals as goal

pub loop-connection-preserved : goal.loop-connection-preserved
loop-connection-preserved c =
    one_more (room_on (sizes_of c.args.sizes.now)) c.args.connections.now c.loop-connection.connection-index _ c.loop-connection.rooms.items _ _ c.loop-connection-test.true
    c.loop-connection.invariant c.in_ok-push.ensures.items c.room_on.ensures

pub returns : goal.returns
returns c =
    let last : c.loop-connection.connection-index ≡ length c.args.connections.now = (let end = c.loop-connection-test.false in let most = c.loop-connection.auto.connection-index-end in omega arith) in
    all_rows (room_on (sizes_of c.args.sizes.now)) c.args.connections.now c.loop-connection.connection-index c.loop-connection.rooms.items last c.loop-connection.invariant
