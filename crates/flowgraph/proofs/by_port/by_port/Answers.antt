use Rattle.std.proofs.Common.{rules, List, ◌≡◌, ◌<◌, ◌+◌, ◌*◌, ◌++◌, ◌∷◌, length, map, set, take, [], get_or, ap, sym, subst, ◌∙◌, arith, Vec, Global}
use Rattle.std.specs.List.{All, filter}
use Rattle.std.proofs.lemmas.List.{take_all, get_or-map, length-map, with_items_is}
use Rattle.std.proofs.lemmas.List.Elements.{All-push, All-replicate, All-set}
use Rattle.flowgraph.specs.declared.fault.Side.TheVariants.{In, Out}
use Rattle.flowgraph.specs.declared.parts.Connection.{Connection}
use Rattle.flowgraph.specs.declared.parts.Input.{Input}
use Rattle.flowgraph.specs.Ports.{net_from}
use Rattle.flowgraph.specs.Tables.{AreByPort}
use Rattle.flowgraph.specs.Wiring.{IsItsReader}
use Rattle.flowgraph.proofs.InputRows.{source, sources_longer, no_sources}
use Rattle.flowgraph.proofs.PortLemmas.{ends_at}
use Rattle.flowgraph.proofs.RowsByPort.{by_port_more, by_port_none}
use Rattle.flowgraph.proofs.TurnLemmas.{nowhere}
use Rattle.flowgraph.proofs.WireLemmas.{its_reader}
use Rattle.flowgraph.proofs.by_port.by_port.Goals as goal

pub loop-connection-init : goal.loop-connection-init
loop-connection-init c =
    record {
      readers = by_port_none c.args.blocks Out _ c.in_ok-readers.ensures;
      inputs = by_port_none c.args.blocks In _ (ap (map (map source)) c.in_ok-inputs.ensures ∙ no_sources (16 * c.args.blocks));
      known = subst (All (All (IsItsReader (net_from c.args.connections.now)))) (sym c.in_ok-inputs.ensures) (All-replicate (All (IsItsReader (net_from c.args.connections.now))) (16 * c.args.blocks) [] (λ k d low. absurd (omega arith)));
    }

pub loop-connection-preserved : goal.loop-connection-preserved
loop-connection-preserved c =
    let links : Vec Connection Global → List Connection = λ row. row.items in
    let items : Vec Input Global → List Input = λ row. row.items in
    let n = c.args.blocks in
    let cs = c.args.connections.now in
    let i = c.loop-connection.connection-index in
    let known = c.loop-connection.invariant in
    let ends = c.requires.within i nowhere c.loop-connection-test.true in
    let from = c.end_of-from.result.0 in
    let out = c.end_of-from.result.1 in
    let to = c.end_of-to.result.0 in
    let port = c.end_of-to.result.1 in
    let from_low : from < n = (let same = c.end_of-from.ensures.block in omega (arith, ends)) in
    let out_low : out < 16 = (let same = c.end_of-from.ensures.port in omega (arith, ends)) in
    let to_low : to < n = (let same = c.end_of-to.ensures.block in omega (arith, ends)) in
    let port_low : port < 16 = (let same = c.end_of-to.ensures.port in omega (arith, ends)) in
    let all_inputs : length (map items c.loop-connection.inputs.items) ≡ 16 * n = sym (length-map (map items c.loop-connection.inputs.items) (map source)) ∙ known.inputs.count in
    let all_readers : length c.loop-connection.readers.items ≡ 16 * n = sym (length-map c.loop-connection.readers.items links) ∙ known.readers.count in
    let at : 16 * from + out < length c.loop-connection.readers.items = omega arith in
    let input_at : 16 * to + port < length (map items c.loop-connection.inputs.items) = omega arith in
    let held : c.len-reader.result ≡ length (links c.index.result.now) = search rules in
    let reader : c.len-reader.result ≡ length (filter (ends_at Out (get_or cs i nowhere).from.0 (get_or cs i nowhere).out_port) (take i cs)) =
    held ∙ ap (λ row. length (links row)) c.index.ensures ∙ ap length (sym (get_or-map links c.loop-connection.readers.items (16 * from + out) c.index.result.now [] at))
    ∙ ap length (known.readers.are from out from_low out_low) ∙ (λ j. length (filter (ends_at Out (c.end_of-from.ensures.block j) (c.end_of-from.ensures.port j)) (take i cs))) in
    let new : Input = record { connection = get_or cs i nowhere; reader = c.len-reader.result } in
    let read : map links c.push_at.new.rows ≡ set (map links c.loop-connection.readers.items) (16 * from + out) (get_or (map links c.loop-connection.readers.items) (16 * from + out) [] ++ get_or cs i nowhere ∷ []) =
    c.in_ok-push_at.ensures ∙ ap (λ rows. set (map links rows) (16 * from + out) (get_or (map links rows) (16 * from + out) [] ++ get_or cs i nowhere ∷ [])) c.deref_mut.ensures.value in
    let entered : map items c.push_at-in-loop-connection.new.rows ≡ set (map items c.loop-connection.inputs.items) (16 * to + port) (get_or (map items c.loop-connection.inputs.items) (16 * to + port) [] ++ new ∷ []) =
    c.in_ok-push_at-2.ensures ∙ ap (λ rows. set (map items rows) (16 * to + port) (get_or (map items rows) (16 * to + port) [] ++ new ∷ [])) c.deref_mut-in-loop-connection.ensures.value in
    let readers = ap (map links) (with_items_is c.loop-connection.readers c.push_at.new.rows (c.push_at.auto.rows ∙ c.deref_mut.ensures.len)) ∙ read in
    let inputs = ap (map items) (with_items_is c.loop-connection.inputs c.push_at-in-loop-connection.new.rows (c.push_at-in-loop-connection.auto.rows ∙ c.deref_mut-in-loop-connection.ensures.len)) ∙ entered in
    record {
      readers = subst (AreByPort n Out (take (i + 1) cs)) (sym readers)
          (by_port_more n (map links c.loop-connection.readers.items) Out cs i nowhere c.loop-connection-test.true known.readers from out c.end_of-from.ensures.block c.end_of-from.ensures.port from_low out_low);
      inputs = subst (AreByPort n In (take (i + 1) cs)) (sym (ap (map (map source)) inputs ∙ sources_longer (map items c.loop-connection.inputs.items) (16 * to + port) new input_at))
          (by_port_more n (map (map source) (map items c.loop-connection.inputs.items)) In cs i nowhere c.loop-connection-test.true known.inputs to port c.end_of-to.ensures.block c.end_of-to.ensures.port to_low port_low);
      known = subst (All (All (IsItsReader (net_from cs)))) (sym inputs)
          (All-set (All (IsItsReader (net_from cs))) (map items c.loop-connection.inputs.items) (16 * to + port) _
          (All-push (IsItsReader (net_from cs)) _ _ (known.known (16 * to + port) [] input_at) (its_reader cs i nowhere c.loop-connection-test.true c.len-reader.result reader)) known.known);
    }

pub returns : goal.returns
returns c =
    let links : Vec Connection Global → List Connection = λ row. row.items in
    let items : Vec Input Global → List Input = λ row. row.items in
    let all = take_all c.loop-connection.connection-index c.args.connections.now c.loop-connection-test.false in
    record {
      readers = subst (λ cs. AreByPort c.args.blocks Out cs (map links c.loop-connection.readers.items)) all c.loop-connection.invariant.readers;
      inputs = subst (λ cs. AreByPort c.args.blocks In cs (map (map source) (map items c.loop-connection.inputs.items))) all c.loop-connection.invariant.inputs;
      known = c.loop-connection.invariant.known;
    }
