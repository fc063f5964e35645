use Rattle.std.proofs.Common.{◌≡◌, ◌≤◌, replicate}
use Rattle.std.specs.Prelude.{vec_capacity}
use Rattle.pipeline.specs.declared.end.End.TheVariants.{Open}
use Rattle.pipeline.proofs.joining.all_open.Given as goal

abbrev pub invariant-loop-blocks : goal.invariant-loop-blocks
invariant-loop-blocks g l = record {
  made : l.ends.items ≡ replicate l._blocks Open;
  room : l.blocks ≤ vec_capacity l.ends;
}
