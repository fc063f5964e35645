use Rattle.std.proofs.Common.{◌≡◌, ◌≤◌, [], drop, length, vec_len, vec_capacity}
use Rattle.toml.specs.View.{items_view}
use Rattle.graph_file.specs.Feeds.{marks_from}
use Rattle.graph_file.proofs.feeds.read_marks.Given as goal

abbrev pub invariant-loop-value : goal.invariant-loop-value
invariant-loop-value l =
    (marks_from l.marks.items (items_view (drop l.value-index l.values)) ≡ marks_from [] (items_view l.values))
    × (vec_len l.marks ≡ l.value-index) × (length l.values ≤ vec_capacity l.marks)
