use Rattle.std.proofs.Common.{subst, sym, ap, ◌∙◌, ◌+◌, ◌++◌, ◌∷◌, [], take}
use Rattle.std.proofs.lemmas.List.{take_more}
use Rattle.flowgraph.specs.Asked.{AreAsked}
use Rattle.flowgraph.proofs.AskedLemmas.{with_one}
use Rattle.flowgraph.proofs.asked.all_asked.Goals as goal

pub loop-entry-preserved : goal.loop-entry-preserved
loop-entry-preserved g c =
    let m = g.B.Block.meaning in
    let es = c.args.blocks.now in
    let i = c.loop-entry.entry-index in
    let e = c.entry-item.result in
    let more = ap (λ x. take i es ++ x ∷ []) c.entry-item.is ∙ sym (take_more es i e c.loop-entry-test.true) in
    subst (AreAsked m (take (i + 1) es)) (sym c.in_ok-push.ensures.items)
    (subst (λ fs. AreAsked m fs (c.loop-entry.all.items ++ c.in_ok-keep_of.field-0 ∷ [])) more (with_one m (take i es) e c.loop-entry.all.items c.in_ok-keep_of.field-0 c.loop-entry.invariant c.in_ok-keep_of.ensures))
