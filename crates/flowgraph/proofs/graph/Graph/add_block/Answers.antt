use Rattle.std.proofs.Common.{rules, arith, ◌≡◌, ◌++◌, ◌∷◌, [], length, map, ap, sym, ◌∙◌}
use Rattle.std.proofs.lemmas.List.{length-map}
use Rattle.graph_model.specs.Graphs.{add_fault}
use Rattle.flowgraph.specs.Fault.{reported}
use Rattle.flowgraph.specs.Flowgraph.{net_of, node_of, graph_of, entry, with_block}
use Rattle.flowgraph.specs.declared.fault.Limit.TheVariants.{Blocks}
use Rattle.flowgraph.proofs.Nets.{added}
use Rattle.flowgraph.proofs.Places.{none_of, some_of}
use Rattle.flowgraph.proofs.graph.Graph.add_block.Goals as goal

pub invariant_of-self-2 : goal.invariant_of-self-2
invariant_of-self-2 g c =
    let named : map (λ n. n.items) c.add_name.new.names.keys ≡ map (λ n. n.items) c.self.inside.names.keys ++ c.args.name.now ∷ [] = c.add_name.ensures ∙ ap (λ ks. map (λ n. n.items) ks ++ c.in_ok-key.key.items ∷ []) c.make_room.ensures.names ∙ ap (λ text. map (λ n. n.items) c.self.inside.names.keys ++ text ∷ []) c.in_ok-key.ensures.copied in
    let blocks : c.push.new.self.items ≡ c.self.inside.blocks.items ++ entry c.args.block c.args.options ∷ [] = search rules in
    let node = node_of g.B.Block.meaning (entry c.args.block c.args.options) in
    let same = ap (λ es. add_fault (map (λ n. n.items) c.self.inside.names.keys) (net_of g.B.Block.meaning (graph_of [] es [])) c.args.name.now node) c.deref.ensures.value in
    added g.B.Block.meaning _ _ _ _ _ _ _ named blocks c.self.invariant (sym same ∙ none_of _ _ _ c.refused_block.ensures c.in_default.not-Some)

pub returns-clause-added : goal.returns-clause-added
returns-clause-added g c =
    let named : map (λ n. n.items) c.add_name.new.names.keys ≡ map (λ n. n.items) c.self.inside.names.keys ++ c.args.name.now ∷ [] = c.add_name.ensures ∙ ap (λ ks. map (λ n. n.items) ks ++ c.in_ok-key.key.items ∷ []) c.make_room.ensures.names ∙ ap (λ text. map (λ n. n.items) c.self.inside.names.keys ++ text ∷ []) c.in_ok-key.ensures.copied in
    let blocks : c.push.new.self.items ≡ c.self.inside.blocks.items ++ entry c.args.block c.args.options ∷ [] = search rules in
    (λ i. graph_of (named i) (blocks i) c.self.inside.connections.items) ∙ ap (λ graph. with_block graph c.args.name.now (entry c.args.block c.args.options)) c.self.view_is

pub returns-in-Some-clause-refused : goal.returns-in-Some-clause-refused
returns-in-Some-clause-refused g c =
    let node = node_of g.B.Block.meaning (entry c.args.block c.args.options) in
    some_of (reported Blocks) _ c.refused_block.result c.in-Some.fault c.refused_block.ensures c.in-Some.is
    ∙ ap (λ es. reported Blocks (add_fault (map (λ n. n.items) c.self.inside.names.keys) (net_of g.B.Block.meaning (graph_of [] es [])) c.args.name.now node)) c.deref.ensures.value
    ∙ ap (λ graph. reported Blocks (add_fault graph.names (net_of g.B.Block.meaning graph) c.args.name.now node)) c.self.view_is

pub overflow_cast-result : goal.overflow_cast-result
overflow_cast-result g c =
    omega (arith, c.self.invariant.few_blocks, length-map c.self.inside.blocks.items (node_of g.B.Block.meaning), c.len-number.ensures, ap length c.make_room.ensures.blocks)
