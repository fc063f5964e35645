use Rattle.std.proofs.Common.{sym, subst, ◌∙◌}
use Rattle.std.proofs.lemmas.List.{with_items_is}
use Rattle.flowgraph.specs.Flowgraph.{net_of}
use Rattle.slices.specs.Firings.{AreFirst}
use Rattle.slices.proofs.first_firings.first_firings.Goals as goal

pub returns-then-settle : goal.returns-then-settle
returns-then-settle g c =
    subst (AreFirst (net_of g.B.Block.meaning c.args.graph.now) c.args.reaches.now)
    (sym (with_items_is c.in_ok-first.first c.settle.new.first (c.settle.auto.first ∙ c.deref_mut.ensures.len))) (c.settle.ensures.first c.if-settle.true)
