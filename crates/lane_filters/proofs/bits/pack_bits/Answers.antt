use Rattle.std.proofs.Common.{◌≡◌, ◌<◌, ◌∙◌, map, length, arith, pos}
use Rattle.kind_model.specs.Kernels.{packed}
use Rattle.lane_filters.proofs.PackedBits.{packed_from}
use Rattle.lane_filters.proofs.Neighbours.{one_more}
use Rattle.lane_filters.proofs.bits.pack_bits.Goals as goal
use Rattle.lane_filters.proofs.bits.pack_bits.Goals.{then-x-at-ge8, else-x-at-ge8}

pub loop-n-preserved : goal.loop-n-preserved
loop-n-preserved c =
    let k = c.args.k in
    let n = c.loop-n.n in
    let x = c.args.x.now in
    let v = c.if-x-at-ge8.out in
    let room : n < length c.loop-n.out = omega arith in
    let value : pos v ≡ packed k (map pos x) n =
    elim c.if-x-at-ge8.branch [
      | then-x-at-ge8 w ↦ packed_from k n v x (w.out-is ∙ w.packed_lanes.ensures)
      | else-x-at-ge8 w ↦ packed_from k n v x (w.out-is ∙ w.packed_byte.ensures)
    ] in
    one_more (packed k (map pos x)) c.loop-n.out n v room value c.loop-n.invariant
