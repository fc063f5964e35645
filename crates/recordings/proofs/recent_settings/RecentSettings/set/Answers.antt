use Rattle.std.proofs.Common.{◌≡◌, ◌∙◌, ap, subst, sym, arith, zero-le}
use Rattle.std.specs.List.{Any}
use Rattle.stream_model.specs.Settings as model
use Rattle.settings.specs.Values.{value_of}
use Rattle.settings.specs.Timelines.{held_at}
use Rattle.recordings.specs.Recent.{SettingsState, settings_made}
use Rattle.recordings.proofs.PastSettings.{one_more, made_more, there_still}
use Rattle.recordings.proofs.recent_settings.RecentSettings.set.Goals as goal

pub invariant_of-self : goal.invariant_of-self
invariant_of-self c =
    let r = c.self.inside in
    let from = ap (λ (s : SettingsState). s.from) c.self.view_is in
    let kept = c.requires in
    rw (c.set.ensures.own, c.in-Ok.ensures.ok, c.and-made.ensures, made_more r.made.pieces c.args.value c.args.at)
    (one_more r.timeline.own (settings_made r.made.pieces) r.from r.timeline.settings c.self.invariant (held_at c.args.at (value_of c.args.value)) (omega (arith, from, kept)))

pub returns-in-Ok-clause-ok : goal.returns-in-Ok-clause-ok
returns-in-Ok-clause-ok c =
    rw (← c.self.view_is) (ap settings_made c.and-made.ensures ∙ made_more c.self.inside.made.pieces c.args.value c.args.at)

pub returns-in-Err-clause-replaces : goal.returns-in-Err-clause-replaces
returns-in-Err-clause-replaces c any =
    let r = c.self.inside in
    let from = ap (λ (s : SettingsState). s.from) c.self.view_is in
    let kept = c.requires in
    let some = subst (λ (s : SettingsState). Any (λ (h : model.Held). h.at ≡ c.args.at) s.settings) (sym c.self.view_is) any in
    c.in-Err.ensures.replaces zero-le
    (there_still r.timeline.own (settings_made r.made.pieces) r.from r.timeline.settings c.self.invariant c.args.at (omega (arith, from, kept)) some)
