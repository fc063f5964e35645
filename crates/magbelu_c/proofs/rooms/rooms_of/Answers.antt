use Rattle.std.proofs.Common.{◌≡◌, ℕ, List, map, ap, ◌∙◌, subst}
use Rattle.std.specs.Prelude.{IfOk}
use Rattle.stream_model.specs.Machine.{Capacities}
use Rattle.graph_model.specs.Rates.{capacities_of}
use Rattle.flowgraph.specs.declared.parts.Connection.{Connection}
use Rattle.flowgraph.specs.Flowgraph.{net_of}
use Rattle.kinds.specs.Kind.{meaning_of}
use Rattle.rates.specs.Answer.{sizes_of}
use Rattle.magbelu_c.specs.Rooms.{room_on, rooms_of}
use Rattle.magbelu_c.proofs.rooms.rooms_of.Goals as goal

pub returns : goal.returns
returns c =
    let g = c.args.graph.now in
    let caps = sizes_of c.in_ok-sizes.sizes in
    let right = c.in_ok-sizes.ensures ∙ ap (capacities_of (net_of meaning_of g)) c.in_ok-rates.ensures.answer in
    let same : map (room_on caps) c.connections.result.now ≡ rooms_of g =
    ap (λ (cs : List Connection). map (room_on caps) cs) c.connections.ensures ∙ ap (λ (all : Capacities). map (room_on all) g.connections) right in
    subst (λ (rs : List ℕ). IfOk c.rooms_in.result (λ rooms. rooms.items ≡ rs)) same c.rooms_in.ensures
