use Rattle.std.proofs.Common.{ap, ◌∙◌}
use Rattle.flowgraph.specs.Wiring.{writers_in}
use Rattle.flowgraph.proofs.Wires.{has_inputs, inputs_are}
use Rattle.flowgraph.proofs.valid.Valid.inputs.Goals as goal

pub row-requires : goal.row-requires
row-requires g c = has_inputs g.B.Block.meaning _ _ c.self.view_is c.self.inside.wiring.inputs c.self.inside.wiring.outputs.items c.self.inside.wiring.readers c.self.invariant.1 c.args.block.0 c.requires

pub returns-clause-writers : goal.returns-clause-writers
returns-clause-writers g c = ap writers_in c.row.ensures ∙ inputs_are g.B.Block.meaning _ _ c.self.view_is c.self.inside.wiring.inputs c.self.inside.wiring.outputs.items c.self.inside.wiring.readers c.self.invariant.1 c.args.block.0 c.requires
