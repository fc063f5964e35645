use Rattle.std.proofs.Common.{◌∙◌}
use Rattle.flowgraph.specs.Flowgraph.{net_of}
use Rattle.plant_transfers.proofs.Wires as wires
use Rattle.plant_transfers.proofs.Reading as reading
use Rattle.plant_transfers.proofs.inputs.input_of.Goals as goal

pub bounds-buffers-output : goal.bounds-buffers-output
bounds-buffers-output g c =
    reading.block_inside (net_of g.B.Block.meaning c.args.graph.now) c.recall.ensures.runs c.args.buffers.now c.args.block.0 c.args.port c.requires.port c.inputs.result.now c.inputs.ensures.writers c.requires.live

pub index-requires : goal.index-requires
index-requires g c =
    reading.port_inside (net_of g.B.Block.meaning c.args.graph.now) c.recall.ensures.runs c.args.buffers.now c.args.block.0 c.args.port c.requires.port c.inputs.result.now c.inputs.ensures.writers c.requires.live
    c.index-buffers-output.result c.index-buffers-output.is

pub returns-clause-buffer : goal.returns-clause-buffer
returns-clause-buffer g c =
    reading.buffer_is (net_of g.B.Block.meaning c.args.graph.now) c.recall.ensures.runs c.args.buffers.now c.args.block.0 c.args.port c.requires.port c.inputs.result.now c.inputs.ensures.writers c.requires.live
    c.index-buffers-output.result c.index-buffers-output.is c.index.result.now c.index.ensures

pub returns-clause-reader : goal.returns-clause-reader
returns-clause-reader g c =
    let net = net_of g.B.Block.meaning c.args.graph.now in
    c.numbered.ensures ∙ wires.input_number net c.recall.ensures.runs c.args.block.0 c.args.port c.requires.port c.inputs.result.now c.inputs.ensures.writers wires.no_input c.inputs.ensures.readers
