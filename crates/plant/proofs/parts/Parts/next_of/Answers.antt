use Rattle.std.proofs.Common.{◌≡◌, ◌<◌, length, ap, sym, ◌∙◌, subst}
use Rattle.std.proofs.lemmas.List.{length-map}
use Rattle.machine_laws.specs.Waits.{waited_for}
use Rattle.machine_laws.proofs.Waiting.{next_inside}
use Rattle.flowgraph.specs.Flowgraph.{net_of, node_of}
use Rattle.firing_rules.specs.Waits.{wait_seen}
use Rattle.plant.specs.Plant.{plant_of}
use Rattle.plant.proofs.parts.Parts.next_of.Goals as goal

pub returns-in-Items-clause-inside : goal.returns-in-Items-clause-inside
returns-in-Items-clause-inside g c =
    let plant = plant_of c.args.self.now in
    let net = net_of g.B.Block.meaning plant.graph in
    let many : length net.nodes ≡ length plant.graph.blocks = length-map plant.graph.blocks (node_of g.B.Block.meaning) in
    let in' : c.args.block.0 < length net.nodes = subst (λ n. c.args.block.0 < n) (sym many) c.requires.block in
    let inside = next_inside net plant.capacities plant.state (rw (← c.deref.ensures) c.recall.ensures.runs) c.args.block.0 in' in
    subst (λ n. c.in-Items.writer.0 < n) many (subst (λ n. n < length net.nodes) (ap (waited_for c.args.block.0) (sym c.own_need.ensures ∙ ap wait_seen c.in-Items.is)) inside)

pub returns-in-Room-clause-inside : goal.returns-in-Room-clause-inside
returns-in-Room-clause-inside g c =
    let plant = plant_of c.args.self.now in
    let net = net_of g.B.Block.meaning plant.graph in
    let many : length net.nodes ≡ length plant.graph.blocks = length-map plant.graph.blocks (node_of g.B.Block.meaning) in
    let in' : c.args.block.0 < length net.nodes = subst (λ n. c.args.block.0 < n) (sym many) c.requires.block in
    let inside = next_inside net plant.capacities plant.state (rw (← c.deref.ensures) c.recall.ensures.runs) c.args.block.0 in' in
    subst (λ n. c.in-Room.reader.0 < n) many (subst (λ n. n < length net.nodes) (ap (waited_for c.args.block.0) (sym c.own_need.ensures ∙ ap wait_seen c.in-Room.is)) inside)
