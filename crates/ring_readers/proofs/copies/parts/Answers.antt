use Rattle.std.proofs.Common.{◌∙◌, sym, take, drop, ◌-◌, ◌++◌}
use Rattle.ring_readers.proofs.Ranges.{slice_range-append}
use Rattle.ring_readers.proofs.copies.parts.Goals as goal

pub returns-clause-items : goal.returns-clause-items
returns-clause-items g c =
    (λ i. take (c.min-2.ensures i - c.min.ensures i) (drop (c.min.ensures i) c.args.front.now) ++ take (c.saturating_sub-2.ensures i - c.saturating_sub.ensures i) (drop (c.saturating_sub.ensures i) c.args.back.now))
    ∙ sym (slice_range-append c.args.front.now c.args.back.now c.args.from c.args.to c.requires.ordered)
