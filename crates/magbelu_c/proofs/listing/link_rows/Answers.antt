use Rattle.std.proofs.Common.{◌≡◌, length, arith, refl}
use Rattle.magbelu_c.specs.Listing.{link_row}
use Rattle.magbelu_c.proofs.TableRows.{one_more, all_rows}
use Rattle.magbelu_c.proofs.listing.link_rows.Goals as goal

pub loop-connection-preserved : goal.loop-connection-preserved
loop-connection-preserved c =
    one_more link_row c.args.connections.now c.loop-connection.connection-index _ c.loop-connection.rows.items _ _ c.loop-connection-test.true c.loop-connection.invariant
    c.in_ok-push.ensures.items refl

pub returns : goal.returns
returns c =
    let last : c.loop-connection.connection-index ≡ length c.args.connections.now = (let end = c.loop-connection-test.false in let most = c.loop-connection.auto.connection-index-end in omega arith) in
    all_rows link_row c.args.connections.now c.loop-connection.connection-index c.loop-connection.rows.items last c.loop-connection.invariant
