use Rattle.std.proofs.Common.{List, ◌++◌, ◌∷◌, [], map, set, ap, sym, ◌∙◌, Vec, Global}
use Rattle.std.proofs.lemmas.List.{map-set, get_or-map}
use Rattle.flowgraph.proofs.by_port.push_at.Goals as goal

pub returns : goal.returns
returns g c =
    let items : Vec g.row.T.Denot Global → List g.row.T.Denot = λ row. row.items in
    let read = get_or-map items c.args.rows.now c.args.at c.index-rows-at.result [] c.requires in
    map-set items c.args.rows.now c.args.at c.push.new.self
    ∙ ap (set (map items c.args.rows.now) c.args.at) (c.in_ok-push.ensures.items ∙ ap (λ row. row ++ c.args.item ∷ []) (sym read))
