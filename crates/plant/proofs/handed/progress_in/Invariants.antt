use Rattle.std.proofs.Common.{◌≡◌, ◌≤◌, map, take, vec_len, vec_capacity}
use Rattle.firing_rules.specs.State.{progress_of}
use Rattle.plant.proofs.handed.progress_in.Given as goal

abbrev pub invariant-loop-block : goal.invariant-loop-block
invariant-loop-block l = record {
  told : map progress_of l.progress.items ≡ take l.block l.firings;
  many : vec_len l.progress ≡ l.block;
  room : l.blocks ≤ vec_capacity l.progress;
}
