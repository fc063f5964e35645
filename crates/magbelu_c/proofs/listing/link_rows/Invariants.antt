use Rattle.std.proofs.Common.{◌≡◌, map, take}
use Rattle.magbelu_c.specs.Listing.{link_row}
use Rattle.magbelu_c.proofs.listing.link_rows.Given as goal

abbrev pub invariant-loop-connection : goal.invariant-loop-connection
invariant-loop-connection l = l.rows.items ≡ map link_row (take l.connection-index l.connections)
