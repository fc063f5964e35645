use Rattle.std.proofs.Common.{◌≡◌, min, length, get_or, arith, ap, sym, ◌∙◌, subst}
use Rattle.std.proofs.lemmas.List.{length-map}
use Rattle.stream_model.specs.Network.{Connection, writers_of, writer_of}
use Rattle.stream_laws.proofs.Writers.{is_input}
use Rattle.flowgraph.specs.declared.parts.Input.{Input}
use Rattle.flowgraph.specs.Flowgraph.{net_of, node_of, connection_of}
use Rattle.slices.proofs.Fewest.{IsFewest, no_input, used_in, input_is, input_carried, one_input, worker_next}
use Rattle.slices.proofs.counts.next.Goals as goal

pub bounds-counts-connection : goal.bounds-counts-connection
bounds-counts-connection g c =
    let net = net_of g.B.Block.meaning c.args.graph.now in
    let is = c.inputs-input-items.result.now in
    let p = c.loop-input.input-index in
    let from : (get_or is p no_input).connection.from.0 ≡ (writer_of net c.args.block.0 p).from = ap (λ (w : Connection). w.from) (input_is g.B.Block.meaning c.args.graph.now is c.args.block.0 c.inputs-input-items.ensures.writers p c.loop-input-test.true) in
    let there = (is_input net c.requires.below.can.runs c.args.block.0 p (used_in g.B.Block.meaning c.args.graph.now is c.args.block.0 c.inputs-input-items.ensures.writers p c.loop-input-test.true)).from in
    let long = c.requires.below.long in
    omega arith

pub allowed-requires : goal.allowed-requires
allowed-requires g c =
    let net = net_of g.B.Block.meaning c.args.graph.now in
    let is = c.inputs-input-items.result.now in
    let p = c.loop-input.input-index in
    let n = length-map c.args.graph.now.blocks (node_of g.B.Block.meaning) in
    input_carried net c.args.firings.now c.args.iterations c.args.counts.now c.requires.below c.args.block.0 (let there = c.requires.there in omega arith) p (connection_of (get_or is p no_input).connection)
    (input_is g.B.Block.meaning c.args.graph.now is c.args.block.0 c.inputs-input-items.ensures.writers p c.loop-input-test.true)
    (used_in g.B.Block.meaning c.args.graph.now is c.args.block.0 c.inputs-input-items.ensures.writers p c.loop-input-test.true)

pub loop-input-preserved : goal.loop-input-preserved
loop-input-preserved g c =
    let net = net_of g.B.Block.meaning c.args.graph.now in
    let is = c.inputs-input-items.result.now in
    let p = c.loop-input.input-index in
    let e = input_is g.B.Block.meaning c.args.graph.now is c.args.block.0 c.inputs-input-items.ensures.writers p c.loop-input-test.true in
    let w = is_input net c.requires.below.can.runs c.args.block.0 p (used_in g.B.Block.meaning c.args.graph.now is c.args.block.0 c.inputs-input-items.ensures.writers p c.loop-input-test.true) in
    one_input net c.args.counts.now c.args.block.0 c.loop-input.fewest p c.min-fewest.result (connection_of (get_or is p no_input).connection) e
    (ap (λ (w : Connection). w.to) e ∙ w.to) (ap (λ (w : Connection). w.in_port) e ∙ w.in_port) (c.min-fewest.ensures ∙ ap (min c.loop-input.fewest) c.allowed.ensures.value) c.loop-input.invariant

pub returns : goal.returns
returns g c =
    let net = net_of g.B.Block.meaning c.args.graph.now in
    let n = length-map c.args.graph.now.blocks (node_of g.B.Block.meaning) in
    let long = ap length c.inputs-input-items.ensures.writers in
    let m = length-map c.inputs-input-items.result.now (λ (i : Input). connection_of i.connection) in
    let end = c.loop-input-test.false in
    let most = c.loop-input.auto.input-index-end in
    let whole : c.loop-input.input-index ≡ length (writers_of net c.args.block.0) = omega arith in
    worker_next net c.args.firings.now c.args.iterations c.args.counts.now c.requires.below c.args.block.0 (let there = c.requires.there in omega arith) (sym c.is_source.ensures ∙ c.if-is_source.false) c.loop-input.fewest
    (subst (IsFewest net c.args.counts.now c.args.block.0 c.loop-input.fewest) whole c.loop-input.invariant)
