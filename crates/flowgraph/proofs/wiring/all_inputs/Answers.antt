use Rattle.std.proofs.Common.{rules, List, ◌≡◌, ◌<◌, ◌++◌, ◌∷◌, [], map, length, get_or, min, ap, subst, sym, ◌∙◌, arith, zero-add, Vec, Global}
use Rattle.std.specs.List.{All, flat_map}
use Rattle.std.proofs.lemmas.List.{map-append, length-map}
use Rattle.std.proofs.lemmas.List.Elements.{All-push}
use Rattle.std.proofs.lemmas.List.FromFn.{map-range_with_len_more}
use Rattle.stream_model.specs.Lists.{below}
use Rattle.stream_model.specs.Network.{writers_of}
use Rattle.flowgraph.specs.declared.parts.Input.{Input}
use Rattle.flowgraph.specs.Ports.{net_from}
use Rattle.flowgraph.specs.Wiring.{writers_in, IsItsReader}
use Rattle.flowgraph.proofs.InputRows.{source, at_port, inputs_are, known_inputs}
use Rattle.flowgraph.proofs.wiring.all_inputs.Goals as goal

pub inputs-requires : goal.inputs-requires
inputs-requires c =
    let items : Vec Input Global → List Input = λ row. row.items in
    let count = c.requires.ports.count in
    let long = length-map (map items c.args.ports.now) (map source) in
    let wide = length-map c.args.ports.now items in
    let few = c.requires.few in
    let low = c.loop-block-test.true in
    let most = c.min.ensures in
    record { few = (omega arith, omega arith); within = omega arith }

pub loop-block-preserved : goal.loop-block-preserved
loop-block-preserved c =
    let items : Vec Input Global → List Input = λ row. row.items in
    let rows : List (List Input) = map items c.args.ports.now in
    let cs = c.args.connections.now in
    let net = net_from cs in
    let n = length c.args.entering.now in
    let b = c.loop-block.block in
    let low : b < n = c.loop-block-test.true in
    let count = get_or c.args.entering.now b 0 in
    let same : c.min.result ≡ min count 16 = search rules in
    let made : c.deref.result.now ≡ flat_map (at_port n cs c.requires.within rows c.requires.ports b low) (below (min count 16)) =
    c.deref.ensures.value ∙ c.in_ok-row.ensures ∙ ap (λ m. flat_map (at_port n cs c.requires.within rows c.requires.ports b low) (below m)) same in
    let writers = ap writers_in made ∙ inputs_are n cs c.requires.within rows c.requires.ports b low count (c.requires.entering b low) in
    let known = subst (All (IsItsReader net)) (sym made) (known_inputs n cs c.requires.within rows c.requires.ports b low net c.requires.known (min count 16) (omega arith)) in (
      ap (map writers_in) c.in_ok-push.ensures ∙ map-append writers_in c.loop-block.rows (c.deref.result.now ∷ [])
          ∙ (λ i. c.loop-block.invariant.0 i ++ writers i ∷ []) ∙ sym (map-range_with_len_more (writers_of net) 0 b b (zero-add b)),
      subst (All (All (IsItsReader net))) (sym c.in_ok-push.ensures) (All-push (All (IsItsReader net)) c.loop-block.rows c.deref.result.now c.loop-block.invariant.1 known),
    )
