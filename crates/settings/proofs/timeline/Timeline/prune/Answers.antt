use Rattle.std.proofs.Common.{◌∙◌, sym, ap, map, subst}
use Rattle.stream_model.specs.Settings as model
use Rattle.settings.specs.Values.{value_of, placed}
use Rattle.settings.specs.Timelines.{kept_from}
use Rattle.settings.proofs.Pruned.{kept-rises, kept-reads}
use Rattle.settings.proofs.timeline.Timeline.prune.Goals as goal

pub invariant_of-self : goal.invariant_of-self
invariant_of-self c =
    subst model.IsRising (sym c.forget_below.ensures) (kept-rises _ (map placed c.self.inside.settings.entries) c.self.invariant)

pub returns-clause-reads : goal.returns-clause-reads
returns-clause-reads c =
    let own = value_of c.self.inside.own in
    let ts = map placed c.self.inside.settings.entries in
    let found = rw (← c.self.view_is) at c.setting_at-first.ensures in
    rw (← c.self.view_is) (λ a after.
    ap (λ us. model.setting_at own us a) c.forget_below.ensures
    ∙ ap (λ (h : model.Held). model.setting_at own (kept_from h.at ts) a) found
    ∙ kept-reads own ts c.args.before a c.self.invariant after)
