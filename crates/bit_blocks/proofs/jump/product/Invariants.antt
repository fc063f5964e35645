use Rattle.std.proofs.Common.{◌≡◌, drop}
use Rattle.std.specs.Prelude.{bit_xor}
use Rattle.bit_blocks.specs.Jumps.{product}
use Rattle.bit_blocks.proofs.jump.product.Given as goal

-- what is added, and what is left to add
abbrev pub invariant-loop-column : goal.invariant-loop-column
invariant-loop-column l = bit_xor l.sum (product (drop l.column-index l.columns) l.rest) ≡ product l.columns l.word
