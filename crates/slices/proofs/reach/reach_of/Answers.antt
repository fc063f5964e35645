use Rattle.std.proofs.Common.{ap, ap₂, sym, ◌∙◌, Some}
use Rattle.stream_model.specs.Network.{node_at}
use Rattle.flowgraph.specs.Flowgraph.{net_of}
use Rattle.slices.specs.Firings.{looks_of, look_at}
use Rattle.slices.specs.LookBack.{nearest_back, tags_back_of, tags_start_of}
use Rattle.slices.specs.Reaches.{items_reach, tags_reach, reaches_of, reach_at}
use Rattle.slices.proofs.Planning.{known_of}
use Rattle.slices.proofs.reach.reach_of.Goals as goal

pub returns-in-Items : goal.returns-in-Items
returns-in-Items g c =
    let known = known_of g.B.Block.meaning g.B.Forgets.looks_back g.met.B.Forgets.places _ c.args.block.0 c.requires in
    ap₂ (λ s b. record { start = s; back = Some b }) c.start.ensures c.back.ensures
    ∙ ap items_reach c.look_at-look.ensures
    ∙ sym known.items_is
    ∙ ap (λ content. reach_at (reaches_of g.B.Block.meaning g.B.Forgets.looks_back content c.args.graph.now) c.args.block.0) (sym c.in-Items.is)

pub returns-in-Tags : goal.returns-in-Tags
returns-in-Tags g c =
    let known = known_of g.B.Block.meaning g.B.Forgets.looks_back g.met.B.Forgets.places _ c.args.block.0 c.requires in
    let look = look_at (looks_of g.B.Forgets.looks_back c.args.graph.now) c.args.block.0 in
    let nearest = nearest_back ((node_at (net_of g.B.Block.meaning c.args.graph.now) c.args.block.0).meaning.rate 0) in
    ap₂ (λ s b. record { start = s; back = Some b }) c.tags_start.ensures (c.tags_back.ensures ∙ ap (tags_back_of c.look_at-look.result) c.nearest_back.ensures)
    ∙ ap (λ l. record { start = tags_start_of l; back = Some (tags_back_of l nearest) }) c.look_at-look.ensures
    ∙ ap (λ h. tags_reach h look nearest) (sym c.if-heeds.true ∙ c.heeds.ensures)
    ∙ sym known.tags_is
    ∙ ap (λ content. reach_at (reaches_of g.B.Block.meaning g.B.Forgets.looks_back content c.args.graph.now) c.args.block.0) (sym c.in-Tags.is)

pub returns-in-Tags-2 : goal.returns-in-Tags-2
returns-in-Tags-2 g c =
    let known = known_of g.B.Block.meaning g.B.Forgets.looks_back g.met.B.Forgets.places _ c.args.block.0 c.requires in
    let look = look_at (looks_of g.B.Forgets.looks_back c.args.graph.now) c.args.block.0 in
    let nearest = nearest_back ((node_at (net_of g.B.Block.meaning c.args.graph.now) c.args.block.0).meaning.rate 0) in
    ap (λ h. tags_reach h look nearest) (sym c.if-heeds.false ∙ c.heeds.ensures)
    ∙ sym known.tags_is
    ∙ ap (λ content. reach_at (reaches_of g.B.Block.meaning g.B.Forgets.looks_back content c.args.graph.now) c.args.block.0) (sym c.in-Tags-2.is)
