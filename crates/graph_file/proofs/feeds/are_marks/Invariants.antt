use Rattle.toml.specs.View.{items_view}
use Rattle.graph_file.specs.Feeds.{marks_of}
use Rattle.graph_file.proofs.TagLists.{IsRest}
use Rattle.graph_file.proofs.feeds.are_marks.Given as goal

abbrev pub invariant-loop-value : goal.invariant-loop-value
invariant-loop-value l = IsRest l.values l.value-index (marks_of (items_view l.values))
