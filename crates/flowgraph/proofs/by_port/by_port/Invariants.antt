use Rattle.std.proofs.Common.{map, take, Vec, Global}
use Rattle.std.specs.List.{All}
use Rattle.flowgraph.specs.declared.fault.Side.TheVariants.{In, Out}
use Rattle.flowgraph.specs.declared.parts.Connection.{Connection}
use Rattle.flowgraph.specs.declared.parts.Input.{Input}
use Rattle.flowgraph.specs.Ports.{net_from}
use Rattle.flowgraph.specs.Tables.{AreByPort}
use Rattle.flowgraph.specs.Wiring.{IsItsReader}
use Rattle.flowgraph.proofs.InputRows.{source}
use Rattle.flowgraph.proofs.by_port.by_port.Given as goal

abbrev pub invariant-loop-connection : goal.invariant-loop-connection
invariant-loop-connection l =
    record {
      readers : AreByPort l.blocks Out (take l.connection-index l.connections) (map (λ (row : Vec Connection Global). row.items) l.readers.items);
      inputs : AreByPort l.blocks In (take l.connection-index l.connections) (map (map source) (map (λ (row : Vec Input Global). row.items) l.inputs.items));
      known : All (All (IsItsReader (net_from l.connections))) (map (λ (row : Vec Input Global). row.items) l.inputs.items);
    }
