use Rattle.std.proofs.Common.{◌∙◌, sym}
use Rattle.settings.proofs.Pruned.{all_kept, one_fewer}
use Rattle.settings.proofs.timeline.forget_below.Goals as goal

pub returns-then-first-at : goal.returns-then-first-at
returns-then-first-at c =
    sym (all_kept c.args.first c.loop-at.settings.entries _ c.loop-at.invariant.0 c.in-Some.ensures.first c.if-first-at.true) ∙ c.loop-at.invariant.1

pub loop-at-preserved-else-first-at : goal.loop-at-preserved-else-first-at
loop-at-preserved-else-first-at c =
    let fewer = one_fewer c.args.first c.loop-at.settings.entries _ _ c.pop_first.result c.in-Some.ensures.first c.if-first-at.false c.loop-at.invariant.0 c.pop_first.ensures.removal c.pop_first.ensures.unchanged in
    (fewer.0, fewer.1 ∙ c.loop-at.invariant.1)

pub loop-at-preserved-else-first-at-2 : goal.loop-at-preserved-else-first-at-2
loop-at-preserved-else-first-at-2 c =
    let fewer = one_fewer c.args.first c.loop-at.settings.entries _ _ c.pop_first.result c.in-Some.ensures.first c.if-first-at.false c.loop-at.invariant.0 c.pop_first.ensures.removal c.pop_first.ensures.unchanged in
    (fewer.0, fewer.1 ∙ c.loop-at.invariant.1)
