use Rattle.std.proofs.Common.{ap, ◌∙◌, ◌++◌}
use Rattle.rates.specs.Answer.{sizes_of}
use Rattle.drawings.specs.Parts.{Arrow, arrow_at}
use Rattle.drawings.specs.Drawings.{connection_text}
use Rattle.drawings.proofs.Ends.{ends_are_blocks, arrow_is}
use Rattle.drawings.proofs.Growing.{grown}
use Rattle.drawings.proofs.drawing.push_connections.Goals as goal

pub drawn_connection-connection-requires-clause-from : goal.drawn_connection-connection-requires-clause-from
drawn_connection-connection-requires-clause-from c =
    (ends_are_blocks c.args.graph.now c.connections-connection-items.result.now c.connections-connection-items.ensures c.loop-number.number c.loop-number-test.true c.recall.ensures.valid.graph.ends).0

pub drawn_connection-connection-requires-clause-to : goal.drawn_connection-connection-requires-clause-to
drawn_connection-connection-requires-clause-to c =
    (ends_are_blocks c.args.graph.now c.connections-connection-items.result.now c.connections-connection-items.ensures c.loop-number.number c.loop-number-test.true c.recall.ensures.valid.graph.ends).1

pub loop-number-preserved : goal.loop-number-preserved
loop-number-preserved c =
    let f = c.args.format in
    let n = c.loop-number.number in
    let caps = sizes_of c.args.sizes.now in
    let is = arrow_is c.args.graph.now c.connections-connection-items.result.now c.connections-connection-items.ensures n c.loop-number-test.true caps in
    grown c.args.text.now.items c.loop-number.text.items c.push_connection.new.text.items (λ n. connection_text f n (arrow_at c.args.graph.now caps n)) n c.loop-number.invariant
    (c.in_ok-push_connection.ensures ∙ ap (λ (a : Arrow). c.loop-number.text.items ++ connection_text f n a) (c.drawn_connection-connection.ensures ∙ is))
