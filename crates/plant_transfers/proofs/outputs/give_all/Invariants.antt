use Rattle.std.proofs.Common.{◌≡◌, vec_capacity}
use Rattle.flowgraph.specs.Flowgraph.{net_of}
use Rattle.plant_transfers.proofs.States.{rows, outputs}
use Rattle.plant_transfers.proofs.Giving.{given_up_to, RestStays}
use Rattle.plant_transfers.proofs.outputs.give_all.Given as goal

abbrev pub invariant-loop-port : goal.invariant-loop-port
invariant-loop-port g l =
    let net = net_of g.B.Block.meaning l.graph in
    record {
      given : outputs l.buffers ≡ given_up_to net l.handed (rows l.initial.buffers) l.firings.block.0 l.firings.first l.firings.next l.outputs l.port;
      rest : RestStays net l.handed (rows l.initial.buffers) l.firings.block.0 l.firings.first l.firings.next l.outputs l.port (rows l.buffers);
      capacity : vec_capacity l.list ≡ vec_capacity l.initial.list;
    }
