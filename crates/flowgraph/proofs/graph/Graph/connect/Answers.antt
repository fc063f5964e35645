use Rattle.std.proofs.Common.{rules, ◌≡◌, ◌++◌, ◌∷◌, [], ap, sym, ◌∙◌}
use Rattle.graph_model.specs.Graphs.{connect_fault}
use Rattle.flowgraph.specs.Fault.{reported}
use Rattle.flowgraph.specs.Flowgraph.{net_of, connection_of, connection}
use Rattle.flowgraph.specs.declared.fault.Limit.TheVariants.{Connections}
use Rattle.flowgraph.proofs.Nets.{connected, connect_same}
use Rattle.flowgraph.proofs.Places.{none_of, some_of}
use Rattle.flowgraph.proofs.graph.Graph.connect.Goals as goal

pub invariant_of-self-2 : goal.invariant_of-self-2
invariant_of-self-2 g c =
    let new = connection c.args.from c.args.out_port c.args.to c.args.in_port in
    let joined : c.push.new.self.items ≡ c.self.inside.connections.items ++ connection c.args.from c.args.out_port c.args.to c.args.in_port ∷ [] = search rules in
    connected g.B.Block.meaning _ _ _ _ _ joined c.self.invariant
    (sym (connect_same g.B.Block.meaning _ _ _ _ new c.deref.ensures.value c.deref-2.ensures.value) ∙ none_of _ _ _ c.refused_connection.ensures c.in_default.not-Some)

pub returns-clause-allowed : goal.returns-clause-allowed
returns-clause-allowed g c =
    let new = connection c.args.from c.args.out_port c.args.to c.args.in_port in
    sym (connect_same g.B.Block.meaning _ _ _ _ new c.deref.ensures.value c.deref-2.ensures.value
    ∙ ap (λ graph. connect_fault (net_of g.B.Block.meaning graph) (connection_of new)) c.self.view_is)
    ∙ none_of _ _ _ c.refused_connection.ensures c.in_default.not-Some

pub returns-in-Some-clause-refused : goal.returns-in-Some-clause-refused
returns-in-Some-clause-refused g c =
    let new = connection c.args.from c.args.out_port c.args.to c.args.in_port in
    some_of (reported Connections) _ c.refused_connection.result c.in-Some.fault c.refused_connection.ensures c.in-Some.is
    ∙ ap (reported Connections)
    (connect_same g.B.Block.meaning _ _ _ _ new c.deref.ensures.value c.deref-2.ensures.value
    ∙ ap (λ graph. connect_fault (net_of g.B.Block.meaning graph) (connection_of new)) c.self.view_is)
