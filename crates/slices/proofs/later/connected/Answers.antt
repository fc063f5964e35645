use Rattle.std.proofs.Common.{length, arith, ap, ◌∙◌}
use Rattle.flowgraph.specs.Flowgraph.{Flowgraph}
use Rattle.slices.proofs.GoingOn.{one_joined, all_joined}
use Rattle.slices.proofs.later.connected.Goals as goal

pub loop-connection-preserved : goal.loop-connection-preserved
loop-connection-preserved g c =
    let is = c.in_ok-connect.ensures.connected in
    let long = ap length c.connections-connection-items.ensures in (
      ap (λ (f : Flowgraph _). f.blocks) is ∙ c.loop-connection.invariant.0,
      ap (λ (f : Flowgraph _). f.connections) is
          ∙ one_joined c.args.made.connections c.loop-connection.joined.connections c.args.graph.now.connections c.connections-connection-items.result.now c.loop-connection.connection-index
          (let lt = c.loop-connection-test.true in omega arith) c.connections-connection-items.ensures c.loop-connection.invariant.1,
    )

pub returns-clause-connections : goal.returns-clause-connections
returns-clause-connections g c =
    let long = ap length c.connections-connection-items.ensures in
    all_joined c.args.made.connections c.loop-connection.joined.connections c.args.graph.now.connections c.loop-connection.connection-index
    (let end = c.loop-connection-test.false in let most = c.loop-connection.auto.connection-index-end in omega arith) c.loop-connection.invariant.1
