use Rattle.std.specs.Arc.{arc_value}
use Rattle.flowgraph.specs.Flowgraph.{net_of}
use Rattle.streaming.proofs.InMemory.{items_of_sink}
use Rattle.streaming.proofs.memory.items_in_memory.Goals as goal

pub returns-in-Keep-clause-of_sink : goal.returns-in-Keep-clause-of_sink
returns-in-Keep-clause-of_sink g c = λ inside keeper.
    items_of_sink (net_of g.B.Block.meaning (arc_value c.args.parts.now.graph)) _ c.args.parts.now.stores c.args.parts.now.firings c.requires.keeps c.args.block.0 inside
    (rw (← c.deref.ensures) c.recall.ensures.runs) keeper c.index-in-Keep.result.now c.index-in-Keep.ensures c.in_memory-in-Keep.result c.in_memory-in-Keep.ensures.least
