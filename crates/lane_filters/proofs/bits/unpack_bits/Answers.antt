use Rattle.std.proofs.Common.{◌≡◌, ◌+◌, ◌*◌, ◌++◌, ◌∙◌, ap, map, take, get_or, arith}
use Rattle.stream_model.specs.Lists.{below}
use Rattle.lane_filters.specs.Words.{bit_of}
use Rattle.lane_filters.proofs.PackedBits.{unpacked_more, stored_bits}
use Rattle.lane_filters.proofs.bits.unpack_bits.Goals as goal
use Rattle.lane_filters.proofs.bits.unpack_bits.Goals.{then-out-at-ge8, else-out-at-ge8}

pub loop-n-preserved : goal.loop-n-preserved
loop-n-preserved c =
    let k = c.args.k in
    let n = c.loop-n.n in
    let x = c.args.x.now in
    let new = c.if-out-at-ge8.out in
    let written : take (k * n + k) new ≡ take (k * n) c.loop-n.out ++ map (bit_of k (get_or x n 0)) (below k) =
    elim c.if-out-at-ge8.branch [
      | then-out-at-ge8 w ↦ ap (take (k * n + k)) w.out-is ∙ stored_bits k (k * n) c.loop-n.out w.spread.result c.requires.most w.spread.ensures.lanes (omega (arith, w.if-out-at-ge8.true))
          ∙ ap (λ l. take (k * n) c.loop-n.out ++ l) w.spread.ensures.bits
      | else-out-at-ge8 w ↦ ap (take (k * n + k)) w.out-is ∙ w.write_bits.ensures
    ] in
    unpacked_more k n x c.loop-n.out new written c.loop-n.invariant
