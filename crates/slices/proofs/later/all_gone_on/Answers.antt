use Rattle.std.proofs.Common.{◌≡◌, length, map, arith, ap, sym, ◌∙◌, subst}
use Rattle.std.proofs.lemmas.List.{map-append}
use Rattle.stream_model.specs.Network.{node_at}
use Rattle.flowgraph.specs.Flowgraph.{Flowgraph, net_of, node_of}
use Rattle.slices.specs.LookBack.{GoesOnAs}
use Rattle.slices.specs.Firings.{looks_of, look_at}
use Rattle.slices.specs.Plans.{AreLater}
use Rattle.slices.proofs.GoingOn.{one_later, none_later}
use Rattle.slices.proofs.later.all_gone_on.Goals as goal

pub loop-block-init : goal.loop-block-init
loop-block-init g c =
    let ls = looks_of g.B.Forgets.looks_back c.args.graph.now in
    let new = c.new-made.ensures in (
      ap (λ (f : Flowgraph _). f.connections) new,
      subst (λ (f : Flowgraph _). AreLater (net_of g.B.Block.meaning c.args.graph.now) c.args.firings.now ls c.args.iterations 0 (map (node_of g.B.Block.meaning) f.blocks)) (sym new)
          (none_later (net_of g.B.Block.meaning c.args.graph.now) c.args.firings.now ls c.args.iterations),
    )

pub loop-block-preserved : goal.loop-block-preserved
loop-block-preserved g c =
    let meaning = g.B.Block.meaning in
    let net = net_of meaning c.args.graph.now in
    let ls = looks_of g.B.Forgets.looks_back c.args.graph.now in
    let added = c.in_ok-add_block.ensures.added in
    let node = c.options.ensures.node in (
      ap (λ (f : Flowgraph _). f.connections) added ∙ c.loop-block.invariant.0,
      one_later net c.args.firings.now ls c.args.iterations c.loop-block.block _ _ _ c.loop-block.invariant.1
          (ap (λ (f : Flowgraph _). map (node_of meaning) f.blocks) added ∙ map-append (node_of meaning) c.loop-block.made.blocks _)
          (record {
            policy = node.policy;
            multiple = node.multiple;
            goes_on = subst (λ n. GoesOnAs (node_at net c.loop-block.block).meaning (look_at ls c.loop-block.block) n (meaning c.in-Some-gone_on.later)) c.in-Some-firings_in.ensures c.in-Some-gone_on.ensures;
          }),
    )

pub returns : goal.returns
returns g c =
    let net = net_of g.B.Block.meaning c.args.graph.now in
    let ls = looks_of g.B.Forgets.looks_back c.args.graph.now in
    let all : c.loop-block.block ≡ length c.args.graph.now.blocks = (let n = c.len-block-end.ensures.blocks in let t = c.loop-block-test.false in let m = c.loop-block.auto.block-end in omega arith) in (
      c.loop-block.invariant.0,
      subst (λ n. AreLater net c.args.firings.now ls c.args.iterations n (net_of g.B.Block.meaning c.loop-block.made).nodes) all c.loop-block.invariant.1,
    )
