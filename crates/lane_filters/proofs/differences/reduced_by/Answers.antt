use Rattle.std.proofs.Common.{take, w8}
use Rattle.std.proofs.lemmas.List.{length-take-le}
use Rattle.std.proofs.lemmas.Simd.{chunk-fits}
use Rattle.lane_filters.proofs.ByteDifferences.{reduced_asks, reduced_are}
use Rattle.lane_filters.proofs.differences.reduced_by.Goals as goal

pub overflow_cast-result : goal.overflow_cast-result
overflow_cast-result c =
    let now = c.args.now.now in
    let past = c.args.past.now in
    reduced_asks c.args.whole c.args.inverse c.args.m (take 16 now) (take 16 past) c.requires.least c.requires.most c.requires.whole c.requires.inverse
    (length-take-le 16 now c.requires.room.0) (length-take-le 16 past c.requires.room.1) (chunk-fits w8 0 16 now c.type_inv.now) (chunk-fits w8 0 16 past c.type_inv.past)

pub returns : goal.returns
returns c =
    let now = c.args.now.now in
    let past = c.args.past.now in
    reduced_are c.args.whole c.args.inverse c.args.m (take 16 now) (take 16 past) c.requires.least c.requires.most c.requires.whole c.requires.inverse
    (length-take-le 16 now c.requires.room.0) (length-take-le 16 past c.requires.room.1) (chunk-fits w8 0 16 now c.type_inv.now) (chunk-fits w8 0 16 past c.type_inv.past)
