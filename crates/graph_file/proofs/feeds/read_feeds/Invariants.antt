use Rattle.std.proofs.Common.{◌≡◌, [], drop, map}
use Rattle.toml.specs.View.{items_view}
use Rattle.graph_file.specs.Steps.{steps, StepsTake}
use Rattle.graph_file.specs.Feeds.{fed, feed_step, FeedTakes}
use Rattle.graph_file.proofs.feeds.read_feeds.Given as goal

abbrev pub invariant-loop-number : goal.invariant-loop-number
invariant-loop-number l =
    (steps feed_step l.number (map fed l.feeds.items) (items_view (drop l.number l.values)) ≡ steps feed_step 0 [] (items_view l.values))
    × (StepsTake feed_step FeedTakes l.number (map fed l.feeds.items) (items_view (drop l.number l.values)) → StepsTake feed_step FeedTakes 0 [] (items_view l.values))
