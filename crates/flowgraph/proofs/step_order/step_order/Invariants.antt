use Rattle.std.proofs.Common.{◌≡◌, ◌<◌, ℕ, true, false, length, get_or}
use Rattle.flowgraph.specs.StepOrder.{IsMade}
use Rattle.flowgraph.proofs.step_order.step_order.Given as goal

abbrev pub invariant-found : goal.invariant-found
invariant-found l = record {
  made : IsMade l.order;
  len : length l.order.placed.items ≡ l.blocks;
}

abbrev pub invariant-all : goal.invariant-all
invariant-all l = record {
  made : IsMade l.order;
  len : length l.order.placed.items ≡ l.blocks;
  placed : (b : ℕ) → b < l.block → get_or l.order.placed.items b false ≡ true;
}
