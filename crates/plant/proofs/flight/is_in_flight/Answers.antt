use Rattle.std.proofs.Common.{◌≡◌, ◌<◌, ◌∙◌, true, length, ap, sym}
use Rattle.std.specs.Arc.{arc_value}
use Rattle.std.proofs.lemmas.List.{length-map}
use Rattle.std.proofs.lemmas.Bool.Decides.{same_from_decides}
use Rattle.stream_model.specs.Meaning.{Meaning}
use Rattle.stream_model.specs.Machine.{is_in_flight}
use Rattle.flowgraph.specs.Flowgraph.{net_of, node_of}
use Rattle.claimed_work.specs.Jobs.{job_in}
use Rattle.plant_storage.specs.Stores.{state_of}
use Rattle.plant.specs.Own.{is_own}
use Rattle.plant.proofs.InFlight.{flight_decides, own_inside, own_means}
use Rattle.plant.proofs.flight.is_in_flight.Goals as goal

pub returns-then-is_same_block : goal.returns-then-is_same_block
returns-then-is_same_block g c =
    let net = net_of g.B.Block.meaning c.args.graph.now in
    let j = c.args.job.now in
    let s = c.args.stores.now in
    let ps = c.args.firings.now in
    let job = job_in j in
    let own = is_own g.B.PartialEq.eq c.args.graph.now (arc_value j.graph) j.block.0 in
    let is_its : own ≡ true = rw (← c.deref.ensures) (sym c.is_same_block.ensures ∙ c.if-is_same_block.true) in
    let inside : j.block.0 < length net.nodes = rw (length-map c.args.graph.now.blocks (node_of g.B.Block.meaning)) (own_inside g.B.PartialEq.eq c.args.graph.now.blocks (arc_value j.graph).blocks j.block.0 is_its) in
    same_from_decides c.is_claim.result (is_in_flight net (state_of s.handed.items ps) own job) c.is_claim.ensures (flight_decides net s ps job own inside is_its)

pub is_claim-requires-clause-block : goal.is_claim-requires-clause-block
is_claim-requires-clause-block g c =
    let j = c.args.job.now in
    let is_its : is_own g.B.PartialEq.eq c.args.graph.now (arc_value j.graph) j.block.0 ≡ true = rw (← c.deref.ensures) (sym c.is_same_block.ensures ∙ c.if-is_same_block.true) in
    own_inside g.B.PartialEq.eq c.args.graph.now.blocks (arc_value j.graph).blocks j.block.0 is_its

pub is_claim-requires-clause-types : goal.is_claim-requires-clause-types
is_claim-requires-clause-types g c =
    let j = c.args.job.now in
    let is_its : is_own g.B.PartialEq.eq c.args.graph.now (arc_value j.graph) j.block.0 ≡ true = rw (← c.deref.ensures) (sym c.is_same_block.ensures ∙ c.if-is_same_block.true) in
    let one = own_means g.B.PartialEq.eq g.B.Block.meaning g.met.B.Block.same c.args.graph.now (arc_value j.graph) j.block.0 is_its in
    λ k d low. c.requires.types k d low ∙ ap (λ (m : Meaning). m.inputs.item) one
