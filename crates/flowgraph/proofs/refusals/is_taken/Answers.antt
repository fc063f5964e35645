use Rattle.std.proofs.Common.{◌≡◌, false, sym, subst, ◌∙◌}
use Rattle.std.specs.List.{list_any}
use Rattle.std.proofs.lemmas.List.{take_all}
use Rattle.std.proofs.lemmas.List.Folds.{list_any_at}
use Rattle.stream_model.specs.Network.{enters}
use Rattle.flowgraph.specs.Flowgraph.{connection_of}
use Rattle.flowgraph.proofs.Places.{list_any-map, none_more}
use Rattle.flowgraph.proofs.refusals.is_taken.Goals as goal

pub loop-connection-preserved : goal.loop-connection-preserved
loop-connection-preserved c =
    none_more (λ x. enters c.args.block.0 c.args.port (connection_of x)) c.args.connections.now c.loop-connection.connection-index _ c.loop-connection-test.true c.loop-connection.invariant (sym c.is_to.ensures ∙ c.if-is_to.false)

pub returns-then-is_to : goal.returns-then-is_to
returns-then-is_to c =
    sym (list_any-map connection_of (enters c.args.block.0 c.args.port) c.args.connections.now
    ∙ list_any_at (λ x. enters c.args.block.0 c.args.port (connection_of x)) c.args.connections.now c.loop-connection.connection-index _ c.loop-connection-test.true (sym c.is_to.ensures ∙ c.if-is_to.true))

pub returns : goal.returns
returns c =
    let none = subst (λ xs. list_any (λ x. enters c.args.block.0 c.args.port (connection_of x)) xs ≡ false)
    (take_all c.loop-connection.connection-index c.args.connections.now c.loop-connection-test.false) c.loop-connection.invariant in
    sym (list_any-map connection_of (enters c.args.block.0 c.args.port) c.args.connections.now ∙ none)
