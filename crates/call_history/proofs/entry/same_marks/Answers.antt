use Rattle.call_history.proofs.Sames.{same_marks}
use Rattle.call_history.proofs.entry.same_marks.Goals as goal

pub returns : goal.returns
returns c = same_marks c.args.one.now c.args.other.now c.eq.result c.eq.ensures
