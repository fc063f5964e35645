use Rattle.std.proofs.Common.{◌≤◌, ◌^◌, take, arith, w8}
use Rattle.std.proofs.lemmas.List.{length-take-le}
use Rattle.std.proofs.lemmas.Simd.{chunk-fits}
use Rattle.lane_filters.proofs.ByteDifferences.{masked_are, power_small}
use Rattle.lane_filters.proofs.differences.masked.Goals as goal

pub returns : goal.returns
returns c =
    let now = c.args.now.now in
    let past = c.args.past.now in
    let few : 2 ^ c.args.power ≤ 256 = omega arith in
    masked_are c.args.m c.args.power (take 16 now) (take 16 past) c.requires.is_power (power_small c.args.power few)
    (length-take-le 16 now c.requires.room.0) (length-take-le 16 past c.requires.room.1) (chunk-fits w8 0 16 now c.type_inv.now) (chunk-fits w8 0 16 past c.type_inv.past)
