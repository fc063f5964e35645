use Rattle.std.proofs.Common.{◌≡◌, ◌≤◌, map, take, length}
use Rattle.call_history.specs.History.{noted_by}
use Rattle.call_history.specs.Logs.{noted_at}
use Rattle.call_history.proofs.logs.is_log.Given as goal

abbrev pub invariant-loop-entry : goal.invariant-loop-entry
invariant-loop-entry l = record {
  same : map noted_by (take l.at l.log) ≡ noted_at l.desk (map noted_by (take l.entry-index l.history));
  within : l.at ≤ length l.log;
}
