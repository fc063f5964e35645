use Rattle.std.proofs.Common.{◌+◌, ◌/◌, arith, inl, inr, subst, sym}
use Rattle.flowgraph.specs.Flowgraph.{net_of}
use Rattle.slices.specs.Counts.{AreCounted}
use Rattle.slices.proofs.Passed.{whole, half}
use Rattle.slices.proofs.past.first_past.Goals as goal
use Rattle.slices.proofs.past.first_past.Goals.{then-are_past, else-are_past}

pub halves-init : goal.halves-init
halves-init g c = whole (net_of g.B.Block.meaning c.args.graph.now) c.args.firings.now c.requires.can

pub halves-preserved : goal.halves-preserved
halves-preserved g c =
    half (net_of g.B.Block.meaning c.args.graph.now) c.args.firings.now c.requires.can c.halves.low c.halves.high ((c.halves.low + c.halves.high) / 2) c.if-are_past.low c.if-are_past.high c.are_past.result c.halves.invariant
    (let o = c.halves-test.true in omega arith) (let o = c.halves-test.true in omega arith)
    (c.are_past.ensures c.args.firings.now ((c.halves.low + c.halves.high) / 2) (subst (AreCounted (net_of g.B.Block.meaning c.args.graph.now) c.args.firings.now ((c.halves.low + c.halves.high) / 2)) (sym c.deref.ensures.value) c.in_ok-counts.ensures))
    (elim c.if-are_past.branch [ then-are_past w ↦ inl (w.if-are_past.true, w.low-is, w.high-is) | else-are_past w ↦ inr (w.if-are_past.false, w.low-is, w.high-is) ])
