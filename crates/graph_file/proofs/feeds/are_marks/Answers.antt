use Rattle.std.proofs.Common.{ap, ◌∙◌}
use Rattle.std.specs.Prelude.{not}
use Rattle.graph_file.proofs.TagLists.{past_tag}
use Rattle.graph_file.proofs.feeds.are_marks.Goals as goal

pub loop-value-preserved : goal.loop-value-preserved
loop-value-preserved c =
    past_tag _ _ _ _ c.loop-value-test.true c.value-item.is c.read_mark.result c.read_mark.ensures (c.is_none.ensures ∙ ap not c.if-is_none.false) c.loop-value.invariant
