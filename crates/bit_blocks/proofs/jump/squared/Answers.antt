use Rattle.std.proofs.Common.{◌≡◌, ◌<◌, ◌≤◌, refl, arith, ◌∙◌}
use Rattle.std.proofs.lemmas.List.{length-set}
use Rattle.bit_blocks.specs.Jumps.{product}
use Rattle.bit_blocks.proofs.Jumps.{one-of-list, all-of-list}
use Rattle.bit_blocks.proofs.jump.squared.Goals as goal

pub loop-place-preserved : goal.loop-place-preserved
loop-place-preserved c = (
  one-of-list (product c.args.columns.now) c.args.columns.now c.loop-place.squared _ c.loop-place.place c.product.result
      (let long = c.loop-place.invariant.1 in let there = c.loop-place-test.true in omega arith)
      (let long = c.told-columns in let there = c.loop-place-test.true in omega arith)
      refl c.product.ensures c.loop-place.invariant.0,
  length-set c.loop-place.squared c.loop-place.place c.product.result ∙ c.loop-place.invariant.1,
)

pub returns : goal.returns
returns c =
    all-of-list (product c.args.columns.now) c.args.columns.now c.loop-place.squared c.loop-place.place
    (let long = c.loop-place.invariant.1 in let end = c.loop-place-test.false in let most = c.loop-place.auto.place-end in omega arith)
    (let long = c.told-columns in let end = c.loop-place-test.false in let most = c.loop-place.auto.place-end in omega arith)
    c.loop-place.invariant.0
