use Rattle.std.proofs.Common.{rules, arith, sym}
use Rattle.std.proofs.lemmas.List.{get_or_read_under}
use Rattle.slices.proofs.Reaching.{last_one}
use Rattle.slices.proofs.plan.Plan.last_begin.Goals as goal

pub loop-at-preserved : goal.loop-at-preserved
loop-at-preserved c =
    last_one c.args.self.now c.args.starts.now c.loop-at.at c.index.result.now (λ d. sym (get_or_read_under c.args.self.now.sinks.items c.loop-at.at c.len-at-end.result c.index.result.now d c.index.ensures (search rules) (search rules))) c.loop-at.last c.last_within.result c.min-last.result c.loop-at.invariant
    (λ j over few h. c.last_within.ensures.last j over few (let e = c.wanted.ensures in omega arith))
    (λ j some over le. (let h = c.last_within.ensures.within j some over le in let e = c.wanted.ensures in omega arith))
    c.min-last.ensures
