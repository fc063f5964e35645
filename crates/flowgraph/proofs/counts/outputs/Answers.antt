use Rattle.std.proofs.Common.{◌≡◌, ◌<◌, ◌+◌, map, max, get_or, ap, ◌∙◌, arith}
use Rattle.std.proofs.lemmas.List.{take_all, get_or_default}
use Rattle.stream_model.specs.Lists.{below}
use Rattle.stream_model.specs.Network.{greatest_port}
use Rattle.flowgraph.specs.Flowgraph.{connection_of}
use Rattle.flowgraph.proofs.CountLemmas.{used_to, with_count, counts_are, used_here, used_other}
use Rattle.flowgraph.proofs.TurnLemmas.{nowhere}
use Rattle.flowgraph.proofs.counts.outputs.Goals as goal

pub loop-connection-preserved : goal.loop-connection-preserved
loop-connection-preserved c =
    let cs = c.args.connections.now in
    let i = c.loop-connection.connection-index in
    let counts = c.loop-connection.counts.items in
    let known = c.loop-connection.invariant in
    let count = known.count in
    let d = get_or cs i nowhere in
    let low = (c.requires i nowhere c.loop-connection-test.true).0 in
    let at : d.from.0 < c.args.blocks = omega (arith, low) in
    let read : c.index.result.now ≡ used_to cs i d.from.0 =
    c.index.ensures ∙ get_or_default counts d.from.0 c.index.result.now 0 (omega arith) ∙ known.are d.from.0 at in
    with_count c.args.blocks (used_to cs i) (used_to cs (i + 1)) counts d.from.0 c.max.result known at
    (c.max.ensures ∙ ap (λ used. max used (d.out_port + 1)) read ∙ used_here cs i nowhere c.loop-connection-test.true)
    (λ b apart. used_other cs i b nowhere c.loop-connection-test.true apart)

pub returns : goal.returns
returns c =
    counts_are c.args.blocks (used_to c.args.connections.now c.loop-connection.connection-index) c.loop-connection.counts.items c.loop-connection.invariant
    ∙ ap (λ cs. map (λ b. greatest_port b (map connection_of cs)) (below c.args.blocks)) (take_all c.loop-connection.connection-index c.args.connections.now c.loop-connection-test.false)
