use Rattle.std.proofs.Common.{◌≡◌, ℕ, [], Some}
use Rattle.pipeline.specs.MarkFaults.{IsGivenTo, KeepsGiven}
use Rattle.pipeline.specs.Marks.{Gives}
use Rattle.pipeline.proofs.marks.MarkReader.find.Given as goal

-- what was read so far gave no mark on, nothing was read where all marks up to the wanted item were given on, those that were given on still are, and no read failed
abbrev pub invariant-loop-pieces : goal.invariant-loop-pieces
invariant-loop-pieces g l = record {
  gives : Gives g.R.Read.remaining l.fn.self l.self [];
  same : (n : ℕ) → l.fn.end ≡ Some n → IsGivenTo n l.fn.self → l.self ≡ l.fn.self;
  keeps : KeepsGiven l.fn.self l.self;
  stays : l.self.has_failed ≡ l.fn.self.has_failed;
}
