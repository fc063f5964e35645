use Rattle.std.proofs.Common.{◌<◌, ◌≤◌, arith, inl, inr}
use Rattle.bit_blocks.specs.Jumps.{product}
use Rattle.bit_blocks.proofs.Jumps.{product-more, product-end}
use Rattle.bit_blocks.proofs.jump.product.Goals as goal
use Rattle.bit_blocks.proofs.jump.product.Goals.{then-rest-eq1, else-rest-eq1}

pub loop-column-preserved : goal.loop-column-preserved
loop-column-preserved c =
    product-more c.args.columns.now c.loop-column.column-index c.loop-column.sum c.loop-column.rest c.if-rest-eq1.sum (product c.args.columns.now c.args.word)
    (let long = c.told-columns in let there = c.loop-column-test.true in omega arith)
    (elim c.if-rest-eq1.branch [ then-rest-eq1 w ↦ inl (w.if-rest-eq1.true, w.sum-is) | else-rest-eq1 w ↦ inr (w.if-rest-eq1.false, w.sum-is) ])
    c.loop-column.invariant

pub returns : goal.returns
returns c =
    product-end c.args.columns.now c.loop-column.column-index c.loop-column.sum c.loop-column.rest (product c.args.columns.now c.args.word)
    (let long = c.told-columns in let end = c.loop-column-test.false in omega arith) c.loop-column.invariant
