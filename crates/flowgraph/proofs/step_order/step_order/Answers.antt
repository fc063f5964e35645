use Rattle.std.proofs.Common.{◌<◌, arith, subst}
use Rattle.std.specs.List.{All}
use Rattle.flowgraph.specs.declared.parts.BlockId.{BlockId}
use Rattle.flowgraph.proofs.step_order.step_order.Goals as goal

pub returns : goal.returns
returns c =
    let made = c.all.invariant.made in
    record {
      within = subst (λ n. All (λ (b : BlockId). b.0 < n) c.all.order.blocks.items) c.all.invariant.len made.within;
      all = λ block low. made.placed block (c.all.invariant.placed block (omega (arith, low, c.all-test.false)));
    }
