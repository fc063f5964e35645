use Rattle.std.proofs.Common.{rules, ◌≡◌, true, false, map, ap, subst, ◌∙◌}
use Rattle.std.specs.Prelude.{IsOk, position, bytes_eq}
use Rattle.flowgraph.specs.Flowgraph.{net_of}
use Rattle.items.specs.Items.{numbers_of}
use Rattle.items.specs.Tags.{tag_of}
use Rattle.kinds.specs.Kind.{meaning_of}
use Rattle.streaming.specs.Streaming.{HasDrainedTo, drained}
use Rattle.streaming.proofs.Pieces.{is_piece}
use Rattle.magbelu_c.specs.Pieces.{unshown}
use Rattle.magbelu_c.proofs.Calling.{none_at, one_at}
use Rattle.magbelu_c.proofs.Showing.{goes, no_block, refuses, stays, taken_all}
use Rattle.magbelu_c.proofs.draining.drain_stream.Goals as goal

pub returns-in_default : goal.returns-in_default
returns-in_default c =
    let s = c.args.stream.now in
    let named = c.block_in.ensures ∙ ap (λ g. position (bytes_eq c.args.sink.now) g.names) c.graph.ensures in
    no_block s c.args.sink.now c.args.max c.args.order c.args.bytes.now c.args.tags.now c.unshown.result (none_at c.block_in.result (position (bytes_eq c.args.sink.now) s.plant.graph.names) named c.in_default.is)
    (c.unshown.ensures ∙ ap unshown c.refusal.ensures)

pub returns-in-Err : goal.returns-in-Err
returns-in-Err c =
    let s = c.args.stream.now in
    let b = c.in-Some.sink in
    let named = c.block_in.ensures ∙ ap (λ g. position (bytes_eq c.args.sink.now) g.names) c.graph.ensures in
    let at = one_at c.block_in.result (position (bytes_eq c.args.sink.now) s.plant.graph.names) b named c.in-Some.is in
    refuses s c.args.sink.now c.args.max c.args.order c.args.bytes.now c.args.tags.now c.unshown-in-Err.result b.0 c.in-Err.fault at c.in-Err.ensures.answered (c.unshown-in-Err.ensures ∙ ap unshown c.refusal-in-Err.ensures)

pub returns-then-not-fits : goal.returns-then-not-fits
returns-then-not-fits c =
    let s = c.args.stream.now in
    let b = c.in-Some.sink in
    let named = c.block_in.ensures ∙ ap (λ g. position (bytes_eq c.args.sink.now) g.names) c.graph.ensures in
    let at = one_at c.block_in.result (position (bytes_eq c.args.sink.now) s.plant.graph.names) b named c.in-Some.is in
    let off : c.fits.result ≡ false = search rules in
    stays c.args.order c.in-Ok.piece c.args.bytes.now c.shown-told.new.bytes c.args.tags.now c.shown-told.new.tags c.shown-told.result s c.args.sink.now c.args.max b.0 at c.in-Ok.ensures.answered c.in-Ok.ensures.typed c.shown-told.ensures
    (λ well fit. let few = fit.0 in let less = fit.1 in c.fits.ensures.no off well few less)

pub unreachable-requires : goal.unreachable-requires
unreachable-requires c =
    let s = c.args.stream.now in
    let b = c.in-Some.sink in
    let piece = c.in-Ok.piece in
    let is = is_piece (net_of meaning_of s.plant.graph) s.plant.state b.0 (drained s b.0) c.args.max piece.from piece.held (numbers_of piece.items) (map tag_of piece.tags.items) piece.done c.in-Ok.ensures.answered in
    let no = subst IsOk c.in-Err-consume.is (c.consume.ensures.sink is.inside is.keeper) in
    cc

pub returns : goal.returns
returns c =
    let s = c.args.stream.now in
    let s' = c.consume.new.self in
    let b = c.in-Some.sink in
    let piece = c.in-Ok.piece in
    let named = c.block_in.ensures ∙ ap (λ g. position (bytes_eq c.args.sink.now) g.names) c.graph.ensures in
    let at = one_at c.block_in.result (position (bytes_eq c.args.sink.now) s.plant.graph.names) b named c.in-Some.is in
    let on : c.fits.result ≡ true = search rules in
    let fit = c.fits.ensures.yes on in
    let few = fit.1 in
    let less = fit.2 in
    let d = c.in-Ok-consume.field-0 in
    let here = c.in-Ok-consume.ensures.at in
    let end = taken_all (net_of meaning_of s.plant.graph) s.plant.state b.0 (drained s b.0) c.args.max piece c.in-Ok.ensures.answered d c.len.result here.begins here.holds c.len.ensures.value in
    goes c.args.order piece c.args.bytes.now c.shown-told.new.bytes c.args.tags.now c.shown-told.new.tags c.shown-told.result s c.args.sink.now c.args.max b.0 at c.in-Ok.ensures.answered c.in-Ok.ensures.typed s' c.shown-told.ensures
    fit.0 (few, less) (subst (λ n. HasDrainedTo s s' b.0 n) end c.in-Ok-consume.ensures.drains)
