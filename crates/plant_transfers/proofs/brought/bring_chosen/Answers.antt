use Rattle.std.proofs.Common.{◌≡◌, ◌<◌, ◌≤◌, ◌++◌, List, [], length, map, arith, ap, sym, ◌∙◌}
use Rattle.stream_model.specs.Tags.{Tag}
use Rattle.stream_model.specs.Network.{node_at}
use Rattle.items.specs.Tags.{tag_of}
use Rattle.flowgraph.specs.Flowgraph.{net_of}
use Rattle.plant_laws.specs.Changes.{tags_waiting}
use Rattle.plant_transfers.specs.Steps.{stored_with}
use Rattle.plant_transfers.proofs.States.{rows}
use Rattle.plant_transfers.proofs.Wires.{waiting_long}
use Rattle.plant_transfers.proofs.Bringing as bringing
use Rattle.plant_transfers.proofs.brought.bring_chosen.Given.{Over}
use Rattle.plant_transfers.proofs.brought.bring_chosen.Goals.{After-inputs}
use Rattle.plant_transfers.proofs.brought.bring_chosen.Goals as goal

abbrev waiting : (g : Over) (c : After-inputs g) → List (List Tag)
waiting g c = tags_waiting (net_of g.B.Block.meaning c.args.graph.now) (stored_with [] (rows c.args.buffers.now)) c.args.firings.block.0

-- a list of waiting tags for each input
long : (g : Over) (c : After-inputs g) → length (waiting g c) ≡ length c.inputs.result.now
long g c = waiting_long (net_of g.B.Block.meaning c.args.graph.now) c.args.firings.block.0 c.inputs.result.now c.inputs.ensures.writers (stored_with [] (rows c.args.buffers.now))

pub bring_from-requires-clause-room : goal.bring_from-requires-clause-room
bring_from-requires-clause-room g c =
    let n = node_at (net_of g.B.Block.meaning c.args.graph.now) c.args.firings.block.0 in
    let at = (goal.at.bring_from-requires-clause-room g c).After-inputs in
    let in' : c.args.port < length (waiting g at) = omega (arith, long g at, c.if-port-inputs.true) in
    let tags = bringing.one_long n c.args.firings.first c.args.firings.next (waiting g at) c.args.port (c.options.ensures.node.policy ∙ c.in-One.is) in' in
    let none = c.args.list.now.ok.0 ∙ ap length c.requires.empty in
    omega (arith, tags, none, c.requires.room)

pub returns-then-port-inputs-clause-tags : goal.returns-then-port-inputs-clause-tags
returns-then-port-inputs-clause-tags g c =
    let n = node_at (net_of g.B.Block.meaning c.args.graph.now) c.args.firings.block.0 in
    let at = (goal.at.returns-then-port-inputs-clause-tags g c).After-inputs in
    let in' : c.args.port < length (waiting g at) = omega (arith, long g at, c.if-port-inputs.true) in
    c.bring_from.ensures.tags
    ∙ ap (λ have. map tag_of have ++ bringing.moved_at n c.args.firings.first c.args.firings.next (waiting g at) c.args.port) c.requires.empty
    ∙ sym (bringing.one_is n c.args.firings.first c.args.firings.next (waiting g at) c.args.port (c.options.ensures.node.policy ∙ c.in-One.is) in')

pub returns-else-port-inputs-clause-tags : goal.returns-else-port-inputs-clause-tags
returns-else-port-inputs-clause-tags g c =
    let n = node_at (net_of g.B.Block.meaning c.args.graph.now) c.args.firings.block.0 in
    let at = (goal.at.returns-else-port-inputs-clause-tags g c).After-inputs in
    let over : length (waiting g at) ≤ c.args.port = omega (arith, long g at, c.if-port-inputs.false) in
    ap (map tag_of) c.requires.empty
    ∙ sym (bringing.one_is_none n c.args.firings.first c.args.firings.next (waiting g at) c.args.port (c.options.ensures.node.policy ∙ c.in-One.is) over)
