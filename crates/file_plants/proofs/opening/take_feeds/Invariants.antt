use Rattle.std.proofs.Common.{◌≡◌, drop, map}
use Rattle.graph_file.specs.Blocks.{drafted}
use Rattle.graph_file.specs.Feeds.{fed}
use Rattle.file_plants.specs.Opening.{after_feeds}
use Rattle.file_plants.proofs.opening.take_feeds.Given as goal

abbrev pub invariant-loop-number : goal.invariant-loop-number
invariant-loop-number g l =
    let now = g.P.TakesFeeds.plant l.plant in
    let old = g.P.TakesFeeds.plant l.initial.plant in
    (after_feeds (drafted now.graph) l.number now.state (map fed (drop l.number l.feeds)) ≡ after_feeds (drafted old.graph) 0 old.state (map fed l.feeds))
    × (now ≡ record old { state = now.state })
    × (g.P.TakesFeeds.whole l.initial.plant → g.P.TakesFeeds.whole l.plant)
