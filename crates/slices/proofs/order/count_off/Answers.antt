use Rattle.std.proofs.Common.{◌<◌, [], ◌∷◌, Vec, length, arith, ap, sym, ◌∙◌, subst, get_or}
use Rattle.std.proofs.lemmas.List.{length-set}
use Rattle.std.proofs.lemmas.List.Elements.{All-append, All-cons, All-nil}
use Rattle.flowgraph.specs.declared.parts.BlockId.{BlockId}
use Rattle.slices.specs.Order.{AreWithin}
use Rattle.slices.proofs.Wires.{no_wire, reader_in}
use Rattle.slices.proofs.order.count_off.Goals as goal
use Rattle.slices.proofs.order.count_off.Goals.{then-waits-to-eq0+in_ok-push, else-waits-to-eq0}

pub bounds-waits-to : goal.bounds-waits-to
bounds-waits-to g c =
    let to = reader_in g.B.Block.meaning c.args.graph.now c.recall.ensures.runs c.args.block.0 c.args.port c.readers-connection-items.result.now c.readers-connection-items.ensures c.loop-connection.connection-index c.loop-connection-test.true in
    let long = c.loop-connection.invariant.0 in
    omega arith

pub bounds-waits-to-in-loop-connection : goal.bounds-waits-to-in-loop-connection
bounds-waits-to-in-loop-connection g c =
    let to = reader_in g.B.Block.meaning c.args.graph.now c.recall.ensures.runs c.args.block.0 c.args.port c.readers-connection-items.result.now c.readers-connection-items.ensures c.loop-connection.connection-index c.loop-connection-test.true in
    let long = c.loop-connection.invariant.0 in
    omega arith

pub bounds-waits-to-in-loop-connection-2 : goal.bounds-waits-to-in-loop-connection-2
bounds-waits-to-in-loop-connection-2 g c =
    let to = reader_in g.B.Block.meaning c.args.graph.now c.recall.ensures.runs c.args.block.0 c.args.port c.readers-connection-items.result.now c.readers-connection-items.ensures c.loop-connection.connection-index c.loop-connection-test.true in
    let long = c.loop-connection.invariant.0 in
    let same = length-set c.loop-connection.waits (get_or c.readers-connection-items.result.now c.loop-connection.connection-index no_wire).to.0 c.saturating_sub.result in
    omega arith

pub loop-connection-preserved : goal.loop-connection-preserved
loop-connection-preserved g c =
    let to = reader_in g.B.Block.meaning c.args.graph.now c.recall.ensures.runs c.args.block.0 c.args.port c.readers-connection-items.result.now c.readers-connection-items.ensures c.loop-connection.connection-index c.loop-connection-test.true in
    let n = length c.args.graph.now.blocks in (
      length-set c.loop-connection.waits (get_or c.readers-connection-items.result.now c.loop-connection.connection-index no_wire).to.0 c.saturating_sub.result ∙ c.loop-connection.invariant.0,
      elim c.if-waits-to-eq0.branch [
        | then-waits-to-eq0+in_ok-push w ↦ subst (AreWithin n) (sym (ap (λ (v : Vec _ _). v.items) w.order-is ∙ w.in_ok-push.ensures.items))
            (All-append (λ (id : BlockId). id.0 < n) c.loop-connection.order.items (_ ∷ []) c.loop-connection.invariant.1 (All-cons (λ (id : BlockId). id.0 < n) _ [] to (All-nil (λ (id : BlockId). id.0 < n))))
        | else-waits-to-eq0 w ↦ subst (AreWithin n) (sym (ap (λ (v : Vec _ _). v.items) w.order-is)) c.loop-connection.invariant.1
      ],
    )
