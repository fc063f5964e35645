use Rattle.std.proofs.Common.{◌≡◌, ◌+◌, ◌-◌, ◌/◌, ◌^◌, ◌∙◌, ap, arith}
use Rattle.lane_filters.specs.Words.{first_bits}
use Rattle.lane_filters.proofs.PackedBits.{lanes_sum, shorter}
use Rattle.lane_filters.proofs.bits.packed_lanes.Goals as goal

pub returns : goal.returns
returns c =
    let k = c.args.k in
    let e : 8 ≡ k + (8 - k) = omega arith in
    ap (λ n. n / 2 ^ (8 - k)) (lanes_sum c.args.items.now c.requires.room ∙ ap (first_bits c.args.items.now) e) ∙ shorter c.args.items.now k (8 - k)
