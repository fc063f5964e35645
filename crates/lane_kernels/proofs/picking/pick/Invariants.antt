use Rattle.std.proofs.Common.{◌≡◌, ◌*◌, map, take, length, pos}
use Rattle.lane_kernels.specs.Streams.{deinterleaved}
use Rattle.lane_kernels.proofs.picking.pick.Given as goal

abbrev pub invariant-loop-turn : goal.invariant-loop-turn
invariant-loop-turn l = map pos (take (l.turn * 16) l.out) ≡ take (l.turn * 16) (deinterleaved (length l.fn.out) l.step l.port (map pos l.items))

abbrev pub invariant-loop-k : goal.invariant-loop-k
invariant-loop-k l = map pos (take l.k l.out) ≡ take l.k (deinterleaved (length l.fn.out) l.step l.port (map pos l.items))
