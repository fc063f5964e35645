use Rattle.std.proofs.Common.{rules, ◌≡◌, length, refl, ap, ◌∙◌}
use Rattle.std.proofs.lemmas.List.{length-map}
use Rattle.graph_model.specs.Rates.{balance_of, capacities_of}
use Rattle.flowgraph.specs.Flowgraph.{net_of}
use Rattle.kinds.specs.Kind.{meaning_of}
use Rattle.magbelu_c.specs.CallAnswers.{shown}
use Rattle.magbelu_c.specs.Replies.{done}
use Rattle.magbelu_c.specs.Rooms.{RoomsNotTold, RoomsTold, room_on, rooms_of}
use Rattle.magbelu_c.proofs.rooms.show_rooms.Goals as goal

pub returns-in_default : goal.returns-in_default
returns-in_default c = RoomsNotTold refl c.no_memory.ensures

pub returns : goal.returns
returns c =
    let g = c.args.graph.now in
    let net = net_of meaning_of g in
    let rows : c.in-Ok.rows.items ≡ rooms_of g = c.in-Ok.ensures in
    let count : c.len.result ≡ length c.in-Ok.rows.items = search rules in
    RoomsTold (c.show.ensures ∙ ap (λ rs. shown rs c.args.rooms.now) (c.deref.ensures.value ∙ rows))
    (c.done.ensures ∙ ap (done 0) (count ∙ ap length rows ∙ length-map g.connections (room_on (capacities_of net (balance_of net)))))
