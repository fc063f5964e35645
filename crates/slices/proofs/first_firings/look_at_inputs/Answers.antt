use Rattle.std.proofs.Common.{arith, sym, subst, get_or}
use Rattle.std.proofs.lemmas.List.{length-map}
use Rattle.flowgraph.specs.Flowgraph.{net_of, node_of, connection_of}
use Rattle.slices.specs.Firings.{AreBegun}
use Rattle.slices.proofs.Fewest.{no_input, used_in, input_is, input_from, input_to}
use Rattle.slices.proofs.Beginning.{begun_raised}
use Rattle.slices.proofs.first_firings.look_at_inputs.Goals as goal

pub needed-firing-requires-clause-from : goal.needed-firing-requires-clause-from
needed-firing-requires-clause-from g c =
    input_from g.B.Block.meaning c.args.graph.now c.inputs-input-items.result.now c.args.block.0 c.inputs-input-items.ensures.writers c.loop-input.input-index c.loop-input-test.true c.recall.ensures.runs

pub needed-firing-requires-clause-to : goal.needed-firing-requires-clause-to
needed-firing-requires-clause-to g c =
    let to = input_to g.B.Block.meaning c.args.graph.now c.inputs-input-items.result.now c.args.block.0 c.inputs-input-items.ensures.writers c.loop-input.input-index c.loop-input-test.true c.recall.ensures.runs in
    let there = c.requires.there in
    omega arith

pub loop-input-preserved : goal.loop-input-preserved
loop-input-preserved g c =
    let net = net_of g.B.Block.meaning c.args.graph.now in
    let rs = c.args.reaches.now in
    let is = c.inputs-input-items.result.now in
    let p = c.loop-input.input-index in
    let n = length-map c.args.graph.now.blocks (node_of g.B.Block.meaning) in
    subst (AreBegun net rs) (sym c.raise.ensures.raised)
    (begun_raised net rs c.loop-input.first c.loop-input.invariant c.recall.ensures.runs c.args.block.0 (let there = c.requires.there in omega arith) p
    (used_in g.B.Block.meaning c.args.graph.now is c.args.block.0 c.inputs-input-items.ensures.writers p c.loop-input-test.true)
    (connection_of (get_or is p no_input).connection)
    (input_is g.B.Block.meaning c.args.graph.now is c.args.block.0 c.inputs-input-items.ensures.writers p c.loop-input-test.true)
    c.needed-firing.result c.needed-firing.ensures.most c.needed-firing.ensures.least)
