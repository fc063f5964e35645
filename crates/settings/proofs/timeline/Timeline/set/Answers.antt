use Rattle.std.proofs.Common.{◌∙◌, ap, map}
use Rattle.settings.specs.Values.{placed}
use Rattle.settings.proofs.Entries.{map-insert_entry, inserted_rises, not_any}
use Rattle.settings.proofs.timeline.Timeline.set.Goals as goal

pub invariant_of-self : goal.invariant_of-self
invariant_of-self c = inserted_rises c.insert.result c.self.inside.settings.entries _ c.args.at c.args.value c.insert.ensures.entries c.insert.ensures.err c.self.invariant

pub returns-in-Ok-clause-ok : goal.returns-in-Ok-clause-ok
returns-in-Ok-clause-ok c =
    rw (← c.self.view_is) (ap (map placed) c.in-Ok.ensures.entries ∙ map-insert_entry c.self.inside.settings.entries c.args.at c.args.value)

pub returns-clause-replaces : goal.returns-clause-replaces
returns-clause-replaces c =
    rw (← c.self.view_is) (λ above any. absurd (not_any c.self.inside.settings.entries c.args.at c.in-Err.ensures.absent any))
