use Rattle.std.proofs.Common.{◌∙◌}
use Rattle.std.proofs.lemmas.List.{length-map}
use Rattle.std.specs.Arc.{arc_value}
use Rattle.flowgraph.specs.Flowgraph.{node_of}
use Rattle.plant.proofs.plant.Plant.opening.Goals as goal

pub opening-requires-clause-long : goal.opening-requires-clause-long
opening-requires-clause-long g c = c.self.invariant.right.keeps.sound.progress_count ∙ length-map (arc_value c.self.inside.parts.graph).blocks (node_of g.B.Block.meaning)
