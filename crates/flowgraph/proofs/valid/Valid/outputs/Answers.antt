use Rattle.std.proofs.Common.{arith, ◌∙◌}
use Rattle.flowgraph.proofs.Wires.{has_outputs, outputs_are, few_outputs}
use Rattle.flowgraph.proofs.valid.Valid.outputs.Goals as goal

pub index-requires : goal.index-requires
index-requires g c = let low = has_outputs g.B.Block.meaning _ _ c.self.view_is c.self.inside.wiring.inputs c.self.inside.wiring.outputs.items c.self.inside.wiring.readers c.self.invariant.1 c.args.block.0 c.requires in omega arith

pub returns-clause-value : goal.returns-clause-value
returns-clause-value g c = c.index.ensures ∙ outputs_are g.B.Block.meaning _ _ c.self.view_is c.self.inside.wiring.inputs c.self.inside.wiring.outputs.items c.self.inside.wiring.readers c.self.invariant.1 c.args.block.0 c.requires c.index.result.now

pub returns-clause-few : goal.returns-clause-few
returns-clause-few g c =
    let value = c.index.ensures ∙ outputs_are g.B.Block.meaning _ _ c.self.view_is c.self.inside.wiring.inputs c.self.inside.wiring.outputs.items c.self.inside.wiring.readers c.self.invariant.1 c.args.block.0 c.requires c.index.result.now in
    let few = few_outputs g.B.Block.meaning _ _ c.self.view_is c.self.inside.wiring.inputs c.self.inside.wiring.outputs.items c.self.inside.wiring.readers c.self.invariant.0 c.args.block.0 in
    omega arith
