use Rattle.std.proofs.Common.{◌≡◌, Ok, true, sym, ap, subst, ltb-true, ltb-false, ◌∙◌}
use Rattle.std.proofs.lemmas.List.{get_or_past}
use Rattle.flowgraph.specs.Flowgraph.{net_of}
use Rattle.machine_laws.specs.Waits.{ForFeed}
use Rattle.plant.specs.Waits.{need_of, wait_in}
use Rattle.pipeline.specs.declared.end.End.TheVariants as ends
use Rattle.pipeline.specs.Pipeline.{Lacks, end_at, has_more}
use Rattle.pipeline.proofs.Awaiting.{lacks_of, there_is}
use Rattle.pipeline.proofs.Moving.{lacks_more, there}
use Rattle.pipeline.proofs.pipeline.Pipeline.lacks.Goals as goal

pub returns-in-Ok-Feed-clause-only : goal.returns-in-Ok-Feed-clause-only
returns-in-Ok-Feed-clause-only g c _ =
    let p = c.args.self.now.plant in
    let net = net_of g.B.Block.meaning p.plant.graph in
    let b = c.args.block.0 in
    let end = c.in-Some.end.now in
    let here : end ≡ end_at c.deref.result.now b = there c.deref.result.now b end (ltb-true _ _ (sym c.in-Some.ensures.lookup.0)) c.in-Some.ensures.lookup.1 in
    let at : end ≡ end_at c.args.self.now.ends.items b = here ∙ ap (λ es. end_at es b) c.deref.ensures.value in
    let more : has_more end ≡ true = sym c.has_more.ensures ∙ c.if-has_more.true in
    let need : need_of net p.plant.capacities p.plant.state b ≡ there_is ForFeed = sym c.need.ensures ∙ ap wait_in (c.in-Ok-Feed.is ∙ ap Ok c.in-Ok-Feed.field-0-is) in
    subst (Lacks net p b) at (lacks_of net p b end more need)

pub returns-else-has_more-clause-all : goal.returns-else-has_more-clause-all
returns-else-has_more-clause-all g c lacks =
    let p = c.args.self.now.plant in
    let net = net_of g.B.Block.meaning p.plant.graph in
    let b = c.args.block.0 in
    let end = c.in-Some.end.now in
    let here : end ≡ end_at c.deref.result.now b = there c.deref.result.now b end (ltb-true _ _ (sym c.in-Some.ensures.lookup.0)) c.in-Some.ensures.lookup.1 in
    let at : end ≡ end_at c.args.self.now.ends.items b = here ∙ ap (λ es. end_at es b) c.deref.ensures.value in
    c.has_more.ensures ∙ lacks_more net p b end (subst (Lacks net p b) (sym at) lacks)

pub returns-in-None-clause-all : goal.returns-in-None-clause-all
returns-in-None-clause-all g c lacks =
    let p = c.args.self.now.plant in
    let net = net_of g.B.Block.meaning p.plant.graph in
    let b = c.args.block.0 in
    let at : end_at c.args.self.now.ends.items b ≡ ends.Open =
    ap (λ es. end_at es b) (sym c.deref.ensures.value) ∙ get_or_past c.deref.result.now b ends.Open (ltb-false _ _ (sym c.in-None.ensures.lookup.0)) in
    absurd (subst (Lacks net p b) at lacks)
