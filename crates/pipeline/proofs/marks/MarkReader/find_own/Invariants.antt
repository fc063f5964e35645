use Rattle.std.proofs.Common.{◌≡◌, ℕ, [], Some}
use Rattle.pipeline.specs.MarkFaults.{IsGivenTo, KeepsGiven}
use Rattle.pipeline.specs.Marks.{GivesTo}
use Rattle.pipeline.proofs.marks.MarkReader.find_own.Given as goal

-- what was read so far gave no mark of the part on, nothing was read where all marks up to the wanted item were given on, those that were given on still are, and no read failed
abbrev pub invariant-loop-marks : goal.invariant-loop-marks
invariant-loop-marks g l = record {
  gives : GivesTo g.R.Read.remaining l.fn.self l.self [] [];
  same : (n : ℕ) → l.fn.end ≡ Some n → IsGivenTo n l.fn.self → l.self ≡ l.fn.self;
  keeps : KeepsGiven l.fn.self l.self;
  stays : l.self.has_failed ≡ l.fn.self.has_failed;
}
