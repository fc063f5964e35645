use Rattle.std.proofs.Common.{◌≡◌, ◌≤◌, false, replicate}
use Rattle.std.specs.Prelude.{vec_capacity}
use Rattle.pipeline.proofs.joining.none_full.Given as goal

abbrev pub invariant-loop-blocks : goal.invariant-loop-blocks
invariant-loop-blocks l = record {
  made : l.full.items ≡ replicate l._blocks false;
  room : l.blocks ≤ vec_capacity l.full;
}
