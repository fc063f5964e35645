use Rattle.std.proofs.Common.{refl, ap, ◌∙◌}
use Rattle.magbelu_c.specs.Pieces.{ShowsNot, unshown}
use Rattle.magbelu_c.proofs.Showing.{reads}
use Rattle.magbelu_c.proofs.piece.read_whole.Goals as goal

pub returns-in-Err : goal.returns-in-Err
returns-in-Err c = ShowsNot c.in-Err.fault c.in-Err.ensures refl refl (c.unshown.ensures ∙ ap unshown c.refusal.ensures)

pub returns : goal.returns
returns c =
    reads c.args.order c.in-Ok.piece c.args.bytes.now c.shown.new.bytes c.args.tags.now c.shown.new.tags c.shown.result c.args.plant.now c.args.sink.now c.args.from c.args.max c.in-Ok.ensures c.shown.ensures
