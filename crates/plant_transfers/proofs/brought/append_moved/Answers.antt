use Rattle.std.proofs.Common.{◌≡◌, ◌∙◌, ◌++◌, ap, sym, map, ℕ}
use Rattle.std.proofs.lemmas.List.{map-append}
use Rattle.stream_model.specs.Network.{node_at}
use Rattle.items.specs.Tags.{tag_of}
use Rattle.flowgraph.specs.Flowgraph.{net_of}
use Rattle.plant_transfers.proofs.Bringing.{stays}
use Rattle.plant_transfers.proofs.brought.append_moved.Goals as goal

pub returns-then-keeps_places-clause-tags : goal.returns-then-keeps_places-clause-tags
returns-then-keeps_places-clause-tags g c =
    let n = node_at (net_of g.B.Block.meaning c.args.graph.now) c.args.block.0 in
    let same : (s : ℕ) → n.meaning.place c.args.port s ≡ s = c.keeps_places.ensures c.if-keeps_places.true in
    ap (map tag_of) c.append.ensures.tags
    ∙ (map-append tag_of c.args.list.now.items c.args.tags.now
    ∙ ap (λ ts. map tag_of c.args.list.now.items ++ ts) (sym (stays n c.args.port same (map tag_of c.args.tags.now))))
