use Rattle.std.proofs.Common.{◌≡◌, subst, sym, ap, ◌∙◌, [], ◌∷◌, map, length, Vec, ℕ, arith}
use Rattle.std.specs.Global.{Global}
use Rattle.flowgraph.specs.Flowgraph.{net_of}
use Rattle.rates.specs.Answer.{AreAsked, CanHold, answer_of}
use Rattle.stream_model.specs.Lists.{below}
use Rattle.stream_model.specs.Network.{used_outputs}
use Rattle.graph_model.specs.Rates.{capacity_of}
use Rattle.std.proofs.lemmas.List.{map-append}
use Rattle.rates.proofs.Listed.{more_numbers}
use Rattle.rates.proofs.Valid.{has_rates, few_ports}
use Rattle.rates.proofs.sizes.capacities.Goals as goal

pub links-requires : goal.links-requires
links-requires g c = has_rates c.args.graph.now.names (net_of g.B.Block.meaning c.args.graph.now) c.recall.ensures.valid c.recall.ensures.runs c.recall.ensures.counts

pub asked-requires : goal.asked-requires
asked-requires g c =
    let net = net_of g.B.Block.meaning c.args.graph.now in
    record {
      rates = subst (CanHold net c.args.rates.now) (sym c.deref.ensures.value)
          (record {
            rates = has_rates c.args.graph.now.names net c.recall.ensures.valid c.recall.ensures.runs c.recall.ensures.counts;
            table = c.in_ok-links.ensures;
            answer = c.requires;
          });
      ports = few_ports g.B.Block.meaning c.args.graph.now c.recall.ensures.valid.graph;
    }

pub row-requires-clause-rates : goal.row-requires-clause-rates
row-requires-clause-rates g c =
    has_rates c.args.graph.now.names (net_of g.B.Block.meaning c.args.graph.now) c.recall.ensures.valid c.recall.ensures.runs c.recall.ensures.counts

pub row-requires-clause-asked : goal.row-requires-clause-asked
row-requires-clause-asked g c =
    let net = net_of g.B.Block.meaning c.args.graph.now in
    subst (λ bal. AreAsked net bal c.deref-in-loop-block.result.now) c.requires.answer
    (subst (AreAsked net (answer_of c.args.rates.now)) (sym c.deref-in-loop-block.ensures.value) c.in_ok-asked.ensures)

pub loop-block-preserved : goal.loop-block-preserved
loop-block-preserved g c =
    let net = net_of g.B.Block.meaning c.args.graph.now in
    ap (map (λ (r : Vec ℕ Global). r.items)) c.in_ok-push.ensures.items
    ∙ map-append (λ (r : Vec ℕ Global). r.items) c.loop-block.rows.items (c.in_ok-row.field-0 ∷ [])
    ∙ more_numbers (λ b. map (capacity_of net (answer_of c.args.rates.now) b) (below (used_outputs net b))) (map (λ (r : Vec ℕ Global). r.items) c.loop-block.rows.items) c.loop-block.block c.in_ok-row.field-0.items
    c.loop-block.invariant (c.in_ok-row.ensures ∙ ap (λ bal. map (capacity_of net bal c.loop-block.block) (below (used_outputs net c.loop-block.block))) (sym c.requires.answer))

pub returns : goal.returns
returns g c =
    let net = net_of g.B.Block.meaning c.args.graph.now in
    let nodes = c.len-blocks.ensures.nodes in
    let stop = c.loop-block-test.false in
    let end : c.loop-block.block ≡ length net.nodes = omega arith in
    c.loop-block.invariant ∙ ap (λ n. map (λ b. map (capacity_of net (answer_of c.args.rates.now) b) (below (used_outputs net b))) (below n)) end
