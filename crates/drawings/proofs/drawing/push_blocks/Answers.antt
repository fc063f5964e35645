use Rattle.std.proofs.Common.{ap, ◌∙◌, ◌++◌}
use Rattle.rates.specs.Answer.{answer_of}
use Rattle.drawings.specs.Parts.{Box, box_at}
use Rattle.drawings.specs.Drawings.{block_text}
use Rattle.drawings.proofs.Growing.{grown}
use Rattle.drawings.proofs.drawing.push_blocks.Goals as goal

pub loop-number-preserved : goal.loop-number-preserved
loop-number-preserved c =
    let f = c.args.format in
    let n = c.loop-number.number in
    grown c.args.text.now.items c.loop-number.text.items c.push_block.new.text.items (λ n. block_text f n (box_at c.args.graph.now (answer_of c.args.rates.now) n)) n c.loop-number.invariant
    (c.in_ok-push_block.ensures ∙ ap (λ (b : Box). c.loop-number.text.items ++ block_text f n b) c.drawn_block-block.ensures)
