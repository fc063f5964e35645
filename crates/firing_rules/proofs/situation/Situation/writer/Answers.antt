use Rattle.std.proofs.Common.{◌<◌, length, arith, ap, sym, ◌∙◌}
use Rattle.std.proofs.lemmas.List.{length-map}
use Rattle.stream_model.specs.Network as model
use Rattle.stream_model.specs.Network.{no_connection, writers_of}
use Rattle.flowgraph.specs.Flowgraph.{net_of}
use Rattle.firing_rules.specs.State.{lent}
use Rattle.firing_rules.proofs.Looks as looks
use Rattle.firing_rules.proofs.situation.Situation.writer.Goals as goal

pub bounds-inputs-port : goal.bounds-inputs-port
bounds-inputs-port g c =
    let net = net_of g.B.Block.meaning c.self.inside.graph.now in
    let st = lent (g.T.Tapes.tapes c.self.inside.tapes.now) c.self.inside.firings.now in
    let used = rw (← c.self.view_is) at c.requires in
    rw (looks.inputs_long net st c.self.inside.block.0 c.inputs.result.now (sym c.is_source.ensures ∙ c.if-is_source.false) c.inputs.ensures.writers) used

pub offset_bounds-inputs-port : goal.offset_bounds-inputs-port
offset_bounds-inputs-port g c =
    let net = net_of g.B.Block.meaning c.self.inside.graph.now in
    let st = lent (g.T.Tapes.tapes c.self.inside.tapes.now) c.self.inside.firings.now in
    let used = rw (← c.self.view_is) at c.requires in
    let there : c.args.port < length c.inputs.result.now = rw (looks.inputs_long net st c.self.inside.block.0 c.inputs.result.now (sym c.is_source.ensures ∙ c.if-is_source.false) c.inputs.ensures.writers) used in
    let few = c.inputs.type_inv in
    omega (arith, there)

pub returns-clause-there : goal.returns-clause-there
returns-clause-there g c =
    let net = net_of g.B.Block.meaning c.self.inside.graph.now in
    let st = lent (g.T.Tapes.tapes c.self.inside.tapes.now) c.self.inside.firings.now in
    let b = c.self.inside.block.0 in
    let other = sym c.is_source.ensures ∙ c.if-is_source.false in
    let used = rw (← c.self.view_is) at c.requires in
    let there : c.args.port < length c.inputs.result.now = rw (looks.inputs_long net st b c.inputs.result.now other c.inputs.ensures.writers) used in
    let same = ap (λ (d : model.Connection). d.from) (looks.connection_at c.inputs.result.now c.args.port looks.nothing_enters no_connection (writers_of net b) there c.inputs.ensures.writers) in
    rw (← c.self.view_is) (rw same (simp length-map at (looks.writer_there net st b c.args.port other used c.self.invariant.1.runs)))
