use Rattle.std.proofs.Common.{◌≤◌, get_or, subst}
use Rattle.std.specs.List.{All}
use Rattle.std.proofs.lemmas.List.{take_all}
use Rattle.std.proofs.lemmas.List.Elements.{All-more}
use Rattle.flowgraph.specs.declared.parts.Connection.{Connection}
use Rattle.flowgraph.proofs.TurnLemmas.{nowhere}
use Rattle.flowgraph.proofs.loops.fall.Goals as goal

pub loop-connection-preserved : goal.loop-connection-preserved
loop-connection-preserved c =
    All-more (λ (e : Connection). get_or c.args.ranks.now e.from.0 0 ≤ get_or c.args.ranks.now e.to.0 0) c.args.connections.now c.loop-connection.connection-index nowhere
    c.loop-connection-test.true c.loop-connection.invariant c.if-ranks-connection.false

pub returns : goal.returns
returns c = λ _. subst (All (λ (e : Connection). get_or c.args.ranks.now e.from.0 0 ≤ get_or c.args.ranks.now e.to.0 0))
    (take_all c.loop-connection.connection-index c.args.connections.now c.loop-connection-test.false) c.loop-connection.invariant
