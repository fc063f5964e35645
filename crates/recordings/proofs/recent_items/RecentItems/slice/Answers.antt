use Rattle.std.proofs.Common.{◌∙◌, ap, arith}
use Rattle.items.specs.Items.{numbers_of}
use Rattle.recordings.specs.Recent.{ItemsState, forgotten_items}
use Rattle.recordings.proofs.Parts.{part_of_kept}
use Rattle.recordings.proofs.recent_items.RecentItems.slice.Goals as goal

pub returns-in-Ok-clause-items : goal.returns-in-Ok-clause-items
returns-in-Ok-clause-items c =
    let from = ap (λ (r : ItemsState). r.from) c.self.view_is in
    let kept = c.requires.kept in
    rw (← c.self.view_is)
    (c.in-Ok.ensures.numbers
    ∙ part_of_kept (forgotten_items c.self.inside.forgotten.pieces) (numbers_of c.self.inside.items) c.self.inside.before c.args.from c.args.to c.self.invariant.before_is (omega (arith, from, kept)) c.requires.ordered)
