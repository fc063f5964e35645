use Rattle.std.proofs.Common.{◌≡◌, map, take}
use Rattle.rates.specs.Answer.{sizes_of}
use Rattle.magbelu_c.specs.Rooms.{room_on}
use Rattle.magbelu_c.proofs.rooms.rooms_in.Given as goal

abbrev pub invariant-loop-connection : goal.invariant-loop-connection
invariant-loop-connection l = l.rooms.items ≡ map (room_on (sizes_of l.sizes)) (take l.connection-index l.connections)
