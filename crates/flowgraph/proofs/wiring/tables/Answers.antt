use Rattle.std.proofs.Common.{List, ◌≡◌, ◌<◌, ◌≤◌, length, map, get_or, ap, sym, ◌∙◌, subst, Vec, Global}
use Rattle.std.specs.List.{All}
use Rattle.flowgraph.specs.declared.fault.Side.TheVariants.{In}
use Rattle.flowgraph.specs.declared.parts.Connection.{Connection}
use Rattle.flowgraph.specs.declared.parts.Input.{Input}
use Rattle.stream_model.specs.Lists.{below}
use Rattle.stream_model.specs.Network.{writers_of}
use Rattle.flowgraph.specs.Flowgraph.{connection_of}
use Rattle.flowgraph.specs.Ports.{AreWithin, net_from}
use Rattle.flowgraph.specs.Tables.{AreByPort}
use Rattle.flowgraph.specs.Wiring.{IsItsReader}
use Rattle.flowgraph.proofs.InputRows.{source}
use Rattle.flowgraph.proofs.RowsByPort.{all_readers_are}
use Rattle.flowgraph.proofs.wiring.tables.Goals as goal

pub all_inputs-requires : goal.all_inputs-requires
all_inputs-requires c =
    let items : Vec Input Global → List Input = λ row. row.items in
    let cs = c.args.connections.now in
    let ports = c.deref.result.now in
    let blocks : length c.deref-2.result.now ≡ c.args.blocks = ap length c.deref-2.ensures.value ∙ c.in_ok-entering.ensures.len in
    record {
      few = subst (λ n. n ≤ 256) (sym blocks) c.requires.few;
      within = subst (λ n. AreWithin n cs) (sym blocks) c.requires.within;
      ports = subst (λ n. AreByPort n In cs (map (map source) (map items ports))) (sym blocks)
          (subst (λ rows. AreByPort c.args.blocks In cs (map (map source) (map items rows))) (sym c.deref.ensures.value) c.in_ok-ports.ensures.inputs);
      known = subst (λ rows. All (All (IsItsReader (net_from cs))) (map items rows)) (sym c.deref.ensures.value) c.in_ok-ports.ensures.known;
      entering = λ b low. ap (λ counts. get_or counts b 0) c.deref-2.ensures.value ∙ c.in_ok-entering.ensures.each b (subst (λ n. b < n) blocks low);
    }

pub returns-clause-tables : goal.returns-clause-tables
returns-clause-tables c =
    let links : Vec Connection Global → List Connection = λ row. row.items in
    let cs = c.args.connections.now in
    let blocks : length c.deref-2.result.now ≡ c.args.blocks = ap length c.deref-2.ensures.value ∙ c.in_ok-entering.ensures.len in
    record {
      writers = c.in_ok-inputs.ensures.writers ∙ ap (λ n. map (writers_of (net_from cs)) (below n)) blocks;
      known = c.in_ok-inputs.ensures.readers;
      used = c.in_ok-outputs.ensures;
      read = ap (map (map connection_of)) (c.in_ok-readers.ensures ∙ ap (map links) c.deref-3.ensures.value)
          ∙ all_readers_are cs c.args.blocks (map links c.in_ok-ports.ports.readers.items) c.in_ok-ports.ensures.readers;
    }
