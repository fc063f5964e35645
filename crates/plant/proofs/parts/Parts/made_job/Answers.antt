use Rattle.std.proofs.Common.{◌≡◌, ◌∙◌, length, ap, sym, subst, arith}
use Rattle.std.specs.Arc.{arc_value}
use Rattle.std.proofs.lemmas.List.{length-map}
use Rattle.stream_model.specs.Network.{used_outputs}
use Rattle.flowgraph.specs.Flowgraph.{Flowgraph, net_of, node_of}
use Rattle.plant_storage.specs.Stores.{stored_in}
use Rattle.plant_storage.specs.Lending.{IsLent}
use Rattle.plant.specs.Plant.{PlantState}
use Rattle.plant.proofs.Jobs.{may_do, its_job}
use Rattle.plant.proofs.Places.{lent_here}
use Rattle.plant.proofs.parts.Parts.made_job.Goals as goal

pub new-requires-2-clause-block : goal.new-requires-2-clause-block
new-requires-2-clause-block g c =
    let graph = arc_value c.args.self.now.graph in
    let same = ap (λ (g : Flowgraph _). length g.blocks) c.in_ok-graph.ensures in
    omega (arith, c.requires.flight.inside, length-map graph.blocks (node_of g.B.Block.meaning), same)

pub new-requires-2-clause-outputs : goal.new-requires-2-clause-outputs
new-requires-2-clause-outputs g c =
    let ok = c.in_ok-lend.ensures in
    let lent = c.replace-lent.result in
    let net = net_of g.B.Block.meaning (arc_value c.lend.new.self.graph) in
    let its = lent_here c.lend.new.self.lent.items c.args.block.0 lent (rw (c.replace-lent.ensures.value) c.index_mut.ensures.value) net (stored_in c.lend.new.self.stores) c.args.first c.args.count ok.lent in
    let here = subst (λ (x : PlantState g.row.B.Denot). IsLent (net_of g.B.Block.meaning x.graph) (stored_in c.lend.new.self.stores) c.args.block.0 c.args.first c.args.count lent.windows.items lent.held.items lent.outputs.items) ok.same its in
    subst (λ (x : Flowgraph g.row.B.Denot). length lent.outputs.items ≡ used_outputs (net_of g.B.Block.meaning x) c.args.block.0) (sym c.in_ok-graph.ensures) here.outputs

pub new-requires-2-clause-can : goal.new-requires-2-clause-can
new-requires-2-clause-can g c =
    let ok = c.in_ok-lend.ensures in
    let lent = c.replace-lent.result in
    let net = net_of g.B.Block.meaning (arc_value c.lend.new.self.graph) in
    let its = lent_here c.lend.new.self.lent.items c.args.block.0 lent (rw (c.replace-lent.ensures.value) c.index_mut.ensures.value) net (stored_in c.lend.new.self.stores) c.args.first c.args.count ok.lent in
    let here = subst (λ (x : PlantState g.row.B.Denot). IsLent (net_of g.B.Block.meaning x.graph) (stored_in c.lend.new.self.stores) c.args.block.0 c.args.first c.args.count lent.windows.items lent.held.items lent.outputs.items) ok.same its in
    may_do g.B.Block.meaning c.args.self.now c.lend.new.self c.args.block.0 c.args.first c.args.count c.deref.result.now c.deref.ensures c.recall.ensures.valid c.recall.ensures.runs ok.same ok.right
    c.requires.flight lent.windows.items lent.held.items lent.outputs.items here c.index-word.result.now c.index-word.ensures (c.in_ok-graph.graph).value c.in_ok-graph.ensures

pub returns-clause-job : goal.returns-clause-job
returns-clause-job g c =
    let ok = c.in_ok-lend.ensures in
    let lent = c.replace-lent.result in
    let net = net_of g.B.Block.meaning (arc_value c.lend.new.self.graph) in
    let its = lent_here c.lend.new.self.lent.items c.args.block.0 lent (rw (c.replace-lent.ensures.value) c.index_mut.ensures.value) net (stored_in c.lend.new.self.stores) c.args.first c.args.count ok.lent in
    let here = subst (λ (x : PlantState g.row.B.Denot). IsLent (net_of g.B.Block.meaning x.graph) (stored_in c.lend.new.self.stores) c.args.block.0 c.args.first c.args.count lent.windows.items lent.held.items lent.outputs.items) ok.same its in
    c.new-2.ensures.job
    ∙ its_job g.B.Block.meaning c.args.self.now c.lend.new.self c.args.block.0 c.args.first c.args.count c.deref.result.now c.deref.ensures c.recall.ensures.valid c.recall.ensures.runs ok.same ok.right
    c.requires.flight lent.windows.items lent.held.items lent.outputs.items here c.index-word.result.now c.index-word.ensures
