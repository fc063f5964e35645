use Rattle.std.proofs.Common.{List, ◌+◌, ◌*◌, ◌++◌, [], map, get_or, ap, sym, ◌∙◌, arith, Vec, Global}
use Rattle.std.proofs.lemmas.List.{get_or-map}
use Rattle.flowgraph.specs.declared.parts.Input.{Input}
use Rattle.flowgraph.proofs.WireLemmas.{flat_map-below}
use Rattle.flowgraph.proofs.wiring.inputs.Goals as goal

pub loop-port-preserved : goal.loop-port-preserved
loop-port-preserved c =
    let items : Vec Input Global → List Input = λ row. row.items in
    let rows = map items c.args.ports.now in
    let past = c.loop-port-test.true in
    let few = c.requires.few in
    let within = c.requires.within in
    let row = get_or-map items c.args.ports.now (16 * c.args.block + c.loop-port.port) c.index-ports-block.result [] (omega arith) in
    c.in_ok-extend_from_slice.ensures.items
    ∙ (λ i. c.loop-port.invariant i ++ (c.deref.ensures.value ∙ ap items c.index-ports-block.is ∙ sym row) i)
    ∙ sym (flat_map-below (λ p. get_or rows (16 * c.args.block + p) []) c.loop-port.port)
