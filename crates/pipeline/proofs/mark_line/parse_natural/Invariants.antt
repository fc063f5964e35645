use Rattle.std.proofs.Common.{◌≡◌, ◌≤◌, drop}
use Rattle.script_text.specs.Numbers.{digits_after}
use Rattle.pipeline.proofs.mark_line.parse_natural.Given as goal

abbrev pub invariant-loop-digit : goal.invariant-loop-digit
invariant-loop-digit l = record {
  value : digits_after l.number (drop l.digit-index l.digits) ≡ digits_after 0 l.digits;
  small : l.number ≤ l.most;
}
