use Rattle.std.proofs.Common.{rules, ◌≡◌, length, map, refl, ap, ◌∙◌}
use Rattle.std.proofs.lemmas.List.{length-map}
use Rattle.magbelu_c.specs.CallAnswers.{shown}
use Rattle.magbelu_c.specs.Listing.{AreNotTold, AreTold, link_row}
use Rattle.magbelu_c.specs.Replies.{done}
use Rattle.magbelu_c.proofs.listing.show_links.Goals as goal

pub returns-in_default : goal.returns-in_default
returns-in_default c = AreNotTold refl c.no_memory.ensures

pub returns : goal.returns
returns c =
    let connections = c.args.graph.now.connections in
    let rows : c.in-Ok.rows.items ≡ map link_row connections = c.in-Ok.ensures ∙ ap (map link_row) c.connections.ensures in
    let count : c.len.result ≡ length c.in-Ok.rows.items = search rules in
    AreTold (c.show.ensures ∙ ap (λ rs. shown rs c.args.links.now) (c.deref.ensures.value ∙ rows))
    (c.done.ensures ∙ ap (done 0) (count ∙ ap length rows ∙ length-map connections link_row))
