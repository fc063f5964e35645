use Rattle.std.proofs.Common.{◌≡◌, ◌≤◌, map, vec_len, vec_capacity}
use Rattle.stream_model.specs.Lists.{below}
use Rattle.code_blocks.specs.Divided.{entry}
use Rattle.code_blocks.proofs.division.Division.new.Given as goal

abbrev pub invariant-loop-top : goal.invariant-loop-top
invariant-loop-top l = record {
  entries : l.table.items ≡ map (entry l.bits l.polynomial) (below l.top);
  len : vec_len l.table ≡ l.top;
  room : 256 ≤ vec_capacity l.table;
}
