use Rattle.std.proofs.Common.{◌≡◌, ◌-◌, ◌^◌, ◌<◌}
use Rattle.kind_model.specs.Codes.{remainder}
use Rattle.code_blocks.specs.Divided.{entry}
use Rattle.code_blocks.proofs.Tables.{high_first}
use Rattle.code_blocks.proofs.division.entry_of.Given as goal

abbrev pub invariant-loop-step : goal.invariant-loop-step
invariant-loop-step l = record {
  less : l.register < 2 ^ l.bits;
  rest : remainder l.bits l.polynomial l.register (high_first (8 - l._step) 0) ≡ entry l.bits l.polynomial l.top;
}
