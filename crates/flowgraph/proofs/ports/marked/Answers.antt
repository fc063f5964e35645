use Rattle.std.proofs.Common.{◌<◌, ◌+◌, ◌*◌, length, false, get_or, ap, sym, subst, ◌∙◌, arith, length-set}
use Rattle.std.proofs.lemmas.List.{take_all, length-replicate}
use Rattle.graph_model.specs.Graphs.{is_used}
use Rattle.flowgraph.specs.Ports.{net_from, model_side}
use Rattle.flowgraph.proofs.PortLemmas.{mark_more, mark_none, end_within}
use Rattle.flowgraph.proofs.ports.marked.Goals as goal

pub loop-connection-init : goal.loop-connection-init
loop-connection-init c = (
  ap length c.in_ok-marks.ensures ∙ length-replicate _ _,
  λ b p hb hp. ap (λ marks. get_or marks (16 * b + p) false) c.in_ok-marks.ensures ∙ mark_none (16 * c.args.blocks) b p c.args.side,
)

pub loop-connection-preserved : goal.loop-connection-preserved
loop-connection-preserved c =
    let end = end_within c.args.blocks c.args.side _ (c.requires.within c.loop-connection.connection-index _ c.loop-connection-test.true) in (
      length-set _ _ _ ∙ c.loop-connection.invariant.0,
      mark_more c.args.blocks c.loop-connection.marks.items c.args.side c.args.connections.now c.loop-connection.connection-index _ c.loop-connection-test.true
          c.loop-connection.invariant.0 c.loop-connection.invariant.1 c.end_of-block.result.0 c.end_of-block.result.1 c.end_of-block.ensures.block c.end_of-block.ensures.port
          (subst (λ b. b < c.args.blocks) (sym c.end_of-block.ensures.block) end.0) (subst (λ p. p < 16) (sym c.end_of-block.ensures.port) end.1),
    )

pub index_mut-requires : goal.index_mut-requires
index_mut-requires c =
    let end = end_within c.args.blocks c.args.side _ (c.requires.within c.loop-connection.connection-index _ c.loop-connection-test.true) in
    let block = subst (λ b. b < c.args.blocks) (sym c.end_of-block.ensures.block) end.0 in
    let port = subst (λ p. p < 16) (sym c.end_of-block.ensures.port) end.1 in
    let len = c.loop-connection.invariant.0 in
    omega arith

pub returns-clause-marks : goal.returns-clause-marks
returns-clause-marks c = λ b p hb hp.
    c.loop-connection.invariant.1 b p hb hp
    ∙ ap (λ cs. is_used (net_from cs) b (model_side c.args.side) p) (take_all c.loop-connection.connection-index c.args.connections.now c.loop-connection-test.false)
