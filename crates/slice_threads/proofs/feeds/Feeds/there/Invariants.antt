use Rattle.std.proofs.Common.{◌<◌, ◌≤◌, ℕ, get_or}
use Rattle.slice_threads.specs.declared.feed.Feed.{Feed}
use Rattle.slice_threads.specs.Cutting.{iterations_in, longest_of}
use Rattle.slice_threads.proofs.feeds.Feeds.there.Given as goal

abbrev pub invariant-loop-feed : goal.invariant-loop-feed
invariant-loop-feed l =
    (l.least ≤ longest_of l.self)
    × ((i : ℕ) (d : Feed) → i < l.feed-index → l.least ≤ iterations_in (get_or l.self.feeds.items i d).stride (get_or l.self.feeds.items i d).room)
