use Rattle.std.proofs.Common.{◌+◌, ◌*◌, ◌/◌, ◌%◌, ◌^◌, ◌≤◌, arith, ap, ◌∙◌}
use Rattle.std.proofs.Math.Nat.{pow-le-pow_right}
use Rattle.kind_model.specs.declared.vocabulary.BitOrder.TheVariants.{MsbFirst, LsbFirst}
use Rattle.lane_filters.proofs.Streams.{reordered-few, turned-more}
use Rattle.lane_filters.proofs.repacked.turned.Goals as goal

pub overflow_mul-turned : goal.overflow_mul-turned
overflow_mul-turned c =
    let few : c.loop-place.place ≤ 32 = omega (arith, c.requires, c.loop-place-test.true) in
    let most : 2 ^ c.loop-place.place ≤ 2 ^ 32 = pow-le-pow_right (omega arith) few in
    omega (arith, most, c.loop-place.invariant, reordered-few LsbFirst MsbFirst c.loop-place.place c.args.bits)

pub overflow_add-turned : goal.overflow_add-turned
overflow_add-turned c =
    let few : c.loop-place.place ≤ 32 = omega (arith, c.requires, c.loop-place-test.true) in
    let most : 2 ^ c.loop-place.place ≤ 2 ^ 32 = pow-le-pow_right (omega arith) few in
    omega (arith, most, c.loop-place.invariant, reordered-few LsbFirst MsbFirst c.loop-place.place c.args.bits)

pub loop-place-preserved : goal.loop-place-preserved
loop-place-preserved c = ap (λ z. 2 * z + c.args.bits / 2 ^ c.loop-place.place % 2) c.loop-place.invariant ∙ turned-more c.args.bits c.loop-place.place
