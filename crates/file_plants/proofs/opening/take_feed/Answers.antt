use Rattle.std.proofs.Common.{◌≡◌, map, Some, ap, ◌∙◌, sym, subst, position, bytes_eq}
use Rattle.stream_model.specs.Machine.{Reply}
use Rattle.stream_model.specs.Network.{State}
use Rattle.plant_storage.specs.Stores as stores
use Rattle.plant.specs.Feeding.{feed_numbers}
use Rattle.graph_file.specs.Refusals.{IsTold}
use Rattle.file_plants.specs.Opening.{told_feed, feed_now, feed_found, after_feed, mark_of}
use Rattle.graph_file.specs.Blocks.{drafted}
use Rattle.graph_file.specs.Feeds.{fed}
use Rattle.file_plants.proofs.Feeding.{feed_numbers-answer, after_feed-refused, no_source-told, found-Some}
use Rattle.file_plants.proofs.opening.take_feed.Goals as goal

pub returns-in-Err-clause-refused : goal.returns-in-Err-clause-refused
returns-in-Err-clause-refused g c =
    let p = g.P.TakesFeeds.plant c.args.plant.now in
    let d = drafted p.graph in
    let st = p.state in
    let b = c.in-Some.source.0 in
    let feed = fed c.args.feed.now in
    let found : position (bytes_eq feed.source) d.names ≡ Some b =
    ap (λ s. position (bytes_eq s) d.names) (sym c.deref.ensures.value) ∙ ap (λ graph. position (bytes_eq c.deref.result.now) graph.names) (sym c.graph.ensures)
    ∙ found-Some (position (bytes_eq c.deref.result.now) c.graph.result.now.names) c.in-Some.source c.in-Some.ensures in
    rw c.feed_fault-in-Err.ensures.told
    (subst (λ (now : Reply × State). IsTold (after_feed c.args.number now) (told_feed c.args.number c.in-Err.fault)) (sym (ap (feed_found d.net st feed) found))
    (no_source-told c.args.number c.in-Err.fault d.net st b feed.items (map mark_of feed.marks) c.in-Err.ensures))

pub returns-clause-refused : goal.returns-clause-refused
returns-clause-refused g c =
    let p = g.P.TakesFeeds.plant c.args.plant.now in
    let d = drafted p.graph in
    let st = p.state in
    let b = c.in-Some.source.0 in
    let found : position (bytes_eq c.args.feed.now.source.items) d.names ≡ Some b =
    ap (λ s. position (bytes_eq s) d.names) (sym c.deref.ensures.value) ∙ ap (λ graph. position (bytes_eq c.deref.result.now) graph.names) (sym c.graph.ensures)
    ∙ found-Some (position (bytes_eq c.deref.result.now) c.graph.result.now.names) c.in-Some.source c.in-Some.ensures in
    let same : feed_now d st (fed c.args.feed.now) ≡ feed_numbers d.net st b c.deref-3.result.now (map stores.mark_of c.deref-4.result.now) =
    ap (feed_found d.net st (fed c.args.feed.now)) found
    ∙ ap (λ xs. feed_numbers d.net st b xs (map mark_of (fed c.args.feed.now).marks)) (sym c.deref-3.ensures.value)
    ∙ ap (λ ms. feed_numbers d.net st b c.deref-3.result.now ms) (ap (map mark_of) (sym c.deref-2.ensures.value) ∙ sym c.in_ok-marks.ensures.ok ∙ ap (map stores.mark_of) (sym c.deref-4.ensures.value)) in
    rw c.feed_fault-in-Err-feed_numbers.ensures.told
    (subst (λ (now : Reply × State). IsTold (after_feed c.args.number now) (told_feed c.args.number c.in-Err-feed_numbers.fault)) (sym same)
    (after_feed-refused c.args.number _ p (g.P.TakesFeeds.plant c.feed_numbers.new.self) c.in-Err-feed_numbers.fault
    (feed_numbers-answer d.net st b c.deref-3.result.now (map stores.mark_of c.deref-4.result.now)) c.in-Err-feed_numbers.ensures.answered))
