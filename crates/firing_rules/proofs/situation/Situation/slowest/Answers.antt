use Rattle.std.proofs.Common.{◌∙◌}
use Rattle.std.specs.Option.{option_map}
use Rattle.flowgraph.specs.Flowgraph.{connection_of}
use Rattle.firing_rules.specs.Situation.{net_seen, state_seen}
use Rattle.firing_rules.proofs.Looks as looks
use Rattle.firing_rules.proofs.Awaiting.{slowest_turn}
use Rattle.firing_rules.proofs.situation.Situation.slowest.Goals as goal

pub loop-connection-preserved : goal.loop-connection-preserved
loop-connection-preserved g c =
    let net = net_seen g.B.Block.meaning c.args.self.now in
    let st = state_seen c.args.self.now in
    record {
      known = c.slower-best.ensures.known;
      left = slowest_turn net st c.args.readers.now c.loop-connection.connection-index looks.nothing_there c.loop-connection-test.true (option_map connection_of c.loop-connection.best) (option_map connection_of c.slower-best.result) c.slower-best.ensures.value ∙ c.loop-connection.invariant.left;
    }
