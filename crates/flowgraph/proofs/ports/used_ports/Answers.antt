use Rattle.std.proofs.Common.{◌≡◌, ◌++◌, ◌∷◌, [], map, ap, sym, ◌∙◌, arith}
use Rattle.std.proofs.lemmas.List.FromFn.{map-range_with_len_more}
use Rattle.stream_model.specs.Lists.{below}
use Rattle.flowgraph.specs.Ports.{ports_at}
use Rattle.flowgraph.proofs.PortLemmas.{ports_are}
use Rattle.flowgraph.proofs.ports.used_ports.Goals as goal

pub loop-block-init : goal.loop-block-init
loop-block-init c = c.in_ok-all.ensures.items

pub loop-block-preserved : goal.loop-block-preserved
loop-block-preserved c =
    let pair = ports_are c.args.connections.now c.args.side c.args.blocks c.loop-block.block c.requires.within c.in_ok-marks.marks.items _ _
    c.deref.ensures.value c.deref-in-loop-block.ensures.value (λ p h. c.in_ok-marks.ensures.marks c.loop-block.block p c.loop-block-test.true h)
    c.count_of-used.result c.count_of-used.ensures.few c.count_of-used.ensures.last c.count_of-used.ensures.above c.gap_below-gap.result c.gap_below-gap.ensures in
    c.in_ok-push.ensures.items
    ∙ (λ i. c.loop-block.invariant i ++ pair i ∷ [])
    ∙ sym (map-range_with_len_more (ports_at c.args.connections.now c.args.side) 0 c.loop-block.block c.loop-block.block (omega arith))

pub returns : goal.returns
returns c =
    let all : c.loop-block.block ≡ c.args.blocks = omega arith in
    c.loop-block.invariant ∙ ap (λ n. map (ports_at c.args.connections.now c.args.side) (below n)) all
