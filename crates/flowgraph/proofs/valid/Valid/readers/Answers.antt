use Rattle.std.proofs.Common.{rules, ap, map, ◌∙◌}
use Rattle.flowgraph.specs.Flowgraph.{connection_of}
use Rattle.flowgraph.proofs.Wires.{has_readers, readers_are, few_outputs, few_blocks}
use Rattle.flowgraph.proofs.valid.Valid.readers.Goals as goal

pub overflow_add-block : goal.overflow_add-block
overflow_add-block g c =
    let few = few_outputs g.B.Block.meaning _ _ c.self.view_is c.self.inside.wiring.inputs c.self.inside.wiring.outputs.items c.self.inside.wiring.readers c.self.invariant.0 c.args.block.0 in
    let blocks = few_blocks g.B.Block.meaning _ _ c.self.view_is c.self.inside.wiring.inputs c.self.inside.wiring.outputs.items c.self.inside.wiring.readers c.self.invariant.0 in
    let low = c.requires.block in
    let used = c.requires.port in
    search rules

pub row-requires : goal.row-requires
row-requires g c = has_readers g.B.Block.meaning _ _ c.self.view_is c.self.inside.wiring.inputs c.self.inside.wiring.outputs.items c.self.inside.wiring.readers c.self.invariant.1 c.args.block.0 c.requires.block c.args.port c.requires.port

pub returns : goal.returns
returns g c = ap (map connection_of) c.row.ensures ∙ readers_are g.B.Block.meaning _ _ c.self.view_is c.self.inside.wiring.inputs c.self.inside.wiring.outputs.items c.self.inside.wiring.readers c.self.invariant.1 c.args.block.0 c.requires.block c.args.port c.requires.port
