use Rattle.std.proofs.Common.{◌<◌, length}
use Rattle.std.proofs.lemmas.List.{length-map}
use Rattle.flowgraph.specs.Flowgraph.{net_of}
use Rattle.plant.specs.Plant.{plant_of}
use Rattle.plant.proofs.Steps.{refused_stays, step_is_of_step}
use Rattle.plant.proofs.parts.Parts.moves.Goals as goal

pub returns-in-Err-clause-err : goal.returns-in-Err-clause-err
returns-in-Err-clause-err g c =
    let old = plant_of c.args.self.now in
    let net = net_of g.B.Block.meaning old.graph in
    let in' : c.args.block.0 < length net.nodes = rw length-map c.requires.block in
    refused_stays _ old _ (step_is_of_step net old.capacities old.state c.args.block.0 c.args.max in') c.in-Err.field-0 c.in-Err.ensures.answered
