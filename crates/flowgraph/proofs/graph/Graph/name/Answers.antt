use Rattle.std.proofs.Common.{List, ℕ, ◌≡◌, ◌<◌, true, [], map, length, get_or, ap, sym, subst, ◌∙◌, arith, Vec, Global}
use Rattle.std.proofs.lemmas.List.{length-map, get_or-map}
use Rattle.std.proofs.lemmas.Option.{slice_get-get_or}
use Rattle.graph_model.specs.Graphs.{is_name}
use Rattle.flowgraph.specs.Flowgraph.{Flowgraph, node_of}
use Rattle.flowgraph.proofs.graph.Graph.name.Goals as goal

pub returns-clause-good : goal.returns-clause-good
returns-clause-good g c =
    let items : Vec ℕ Global → List ℕ = λ name. name.items in
    let keys = c.self.inside.names.keys in
    let blocks = c.self.inside.blocks.items in
    let b = c.args.block.0 in
    let same = ap (λ (graph : Flowgraph _). length graph.blocks) c.self.view_is in
    let named = c.self.invariant.named in
    let nodes = length-map blocks (node_of g.B.Block.meaning) in
    let names = length-map keys items in
    let there : b < length keys = (let low = c.requires in omega arith) in
    let read = sym (slice_get-get_or keys b c.index.result.now there) ∙ c.index.ensures in
    let key : c.index.result.now ≡ get_or keys b c.index.result.now = cc in
    let name : c.deref.result.now ≡ get_or (map items keys) b [] =
    c.deref.ensures.value ∙ ap items key ∙ sym (get_or-map items keys b c.index.result.now [] there) in
    subst (λ s. is_name s ≡ true) (sym name) (c.self.invariant.good_names b [] (omega arith))
