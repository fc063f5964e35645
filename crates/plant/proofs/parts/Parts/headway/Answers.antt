use Rattle.std.proofs.Common.{◌≡◌, ◌+◌, ◌-◌, ◌<◌, ◌^◌, length, map, min, arith, ap, sym, ◌∙◌}
use Rattle.std.specs.Prelude.{sum}
use Rattle.stream_model.specs.Lists.{below}
use Rattle.std.proofs.lemmas.List.{length-map}
use Rattle.flowgraph.specs.Flowgraph.{Flowgraph, net_of, node_of}
use Rattle.plant.specs.Headway.{fed_to, given_by_source}
use Rattle.plant.specs.Plant.{KeepsAll, plant_of, spans_in}
use Rattle.plant.proofs.Counting.{capped, sum-below_more}
use Rattle.plant.proofs.parts.Parts.headway.Goals as goal

pub loop-block-preserved : goal.loop-block-preserved
loop-block-preserved g c =
    let plant = plant_of c.args.self.now in
    let net = net_of g.B.Block.meaning plant.graph in
    let so_far = c.loop-block.invariant in
    let own = c.own_headway-own.ensures in
    let fits : (keeps : KeepsAll (spans_in c.args.self.now)) → c.loop-block.headway.fed + c.own_headway-own.result.fed < 2 ^ 64 = λ keeps.
    (let before = so_far.short keeps in let here = own.short keeps in let few = c.len-block-end.ensures.few in let more = c.loop-block-test.true in omega (arith, before, here, few, more)) in
    record {
      given = λ keeps. (let all = fits keeps in let less = so_far.within in let fewer = own.within in c.saturating_add.ensures ∙ omega (arith, all, less, fewer))
          ∙ ap (λ n. n + c.own_headway-own.result.given) (so_far.given keeps) ∙ ap (λ n. sum (map (given_by_source net plant.state) (below c.loop-block.block)) + n) own.given ∙ sym (sum-below_more (given_by_source net plant.state) c.loop-block.block);
      fed = λ keeps. (let all = fits keeps in c.saturating_add-in-loop-block.ensures ∙ omega (arith, all))
          ∙ ap (λ n. n + c.own_headway-own.result.fed) (so_far.fed keeps) ∙ ap (λ n. sum (map (fed_to net plant.state) (below c.loop-block.block)) + n) own.fed ∙ sym (sum-below_more (fed_to net plant.state) c.loop-block.block);
      given_shown = c.saturating_add.ensures ∙ ap (λ n. min (n + c.own_headway-own.result.given) (2 ^ 64 - 1)) so_far.given_shown
          ∙ capped (sum (map (given_by_source net plant.state) (below c.loop-block.block))) c.own_headway-own.result.given (2 ^ 64 - 1)
          ∙ ap (λ n. min (sum (map (given_by_source net plant.state) (below c.loop-block.block)) + n) (2 ^ 64 - 1)) own.given ∙ ap (λ n. min n (2 ^ 64 - 1)) (sym (sum-below_more (given_by_source net plant.state) c.loop-block.block));
      fed_shown = c.saturating_add-in-loop-block.ensures ∙ ap (λ n. min (n + c.own_headway-own.result.fed) (2 ^ 64 - 1)) so_far.fed_shown
          ∙ capped (sum (map (fed_to net plant.state) (below c.loop-block.block))) c.own_headway-own.result.fed (2 ^ 64 - 1)
          ∙ ap (λ n. min (sum (map (fed_to net plant.state) (below c.loop-block.block)) + n) (2 ^ 64 - 1)) own.fed ∙ ap (λ n. min n (2 ^ 64 - 1)) (sym (sum-below_more (fed_to net plant.state) c.loop-block.block));
      within = omega (arith, so_far.within, own.within, c.saturating_add.ensures, c.saturating_add-in-loop-block.ensures);
      short = λ keeps. (let before = so_far.short keeps in let here = own.short keeps in let sum = c.saturating_add-in-loop-block.ensures in omega (arith, before, here, sum));
    }

pub returns-clause-shown : goal.returns-clause-shown
returns-clause-shown g c =
    let plant = plant_of c.args.self.now in
    let net = net_of g.B.Block.meaning plant.graph in
    let long = length-map plant.graph.blocks (node_of g.B.Block.meaning) in
    let end = c.len-block-end.ensures.blocks ∙ ap (λ (f : Flowgraph _). length f.blocks) c.deref.ensures in
    let all : c.loop-block.block ≡ length net.nodes = (let upto = c.loop-block.auto.block-end in let past = c.loop-block-test.false in omega (arith, long, end, upto, past)) in
    let given = c.loop-block.invariant.given_shown ∙ ap (λ n. min (sum (map (given_by_source net plant.state) (below n))) (2 ^ 64 - 1)) all in
    let fed = c.loop-block.invariant.fed_shown ∙ ap (λ n. min (sum (map (fed_to net plant.state) (below n))) (2 ^ 64 - 1)) all in
    (λ i. record { given = given i; fed = fed i })
