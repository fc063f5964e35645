use Rattle.std.proofs.Common.{rules, arith, sym}
use Rattle.std.proofs.lemmas.List.{get_or_read_under}
use Rattle.slices.proofs.Reaching.{first_one}
use Rattle.slices.proofs.plan.Plan.first_end.Goals as goal

pub loop-at-preserved : goal.loop-at-preserved
loop-at-preserved c =
    first_one c.args.self.now c.args.ends.now c.loop-at.at c.index.result.now (λ d. sym (get_or_read_under c.args.self.now.sinks.items c.loop-at.at c.len-at-end.result c.index.result.now d c.index.ensures (search rules) (search rules))) c.loop-at.first c.first_with.result c.max-first.result c.loop-at.invariant
    c.first_with.ensures.behind
    (λ j over few h. c.first_with.ensures.first j over few (let e = c.wanted.ensures in omega arith))
    (λ j le few. (let h = c.first_with.ensures.with j le few in let e = c.wanted.ensures in omega arith))
    c.max-first.ensures
