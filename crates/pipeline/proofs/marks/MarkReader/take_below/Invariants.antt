use Rattle.std.proofs.Common.{◌≡◌}
use Rattle.std.specs.List.{All}
use Rattle.script_text.specs.Commands.{marks_seen}
use Rattle.pipeline.specs.MarkFaults.{IsWithin}
use Rattle.pipeline.specs.Marks.{GivesTo}
use Rattle.pipeline.proofs.marks.MarkReader.take_below.Given as goal

-- what was given on so far stands behind what there was, and is on these items, and no read failed
abbrev pub invariant-loop-marks : goal.invariant-loop-marks
invariant-loop-marks g l = record {
  gives : GivesTo g.R.Read.remaining l.fn.self l.self (marks_seen l.fn.marks.items) (marks_seen l.marks.items);
  within : All (IsWithin l.fn.start l.fn.end) (marks_seen l.fn.marks.items) → All (IsWithin l.fn.start l.fn.end) (marks_seen l.marks.items);
  stays : l.self.has_failed ≡ l.fn.self.has_failed;
}
