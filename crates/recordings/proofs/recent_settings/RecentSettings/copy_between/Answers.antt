use Rattle.std.proofs.Common.{◌∙◌, ap, arith}
use Rattle.recordings.specs.Recent.{SettingsState, settings_made}
use Rattle.recordings.proofs.PastSettings.{between_same}
use Rattle.recordings.proofs.recent_settings.RecentSettings.copy_between.Goals as goal

pub returns-in-Ok : goal.returns-in-Ok
returns-in-Ok c =
    let r = c.self.inside in
    let from = ap (λ (s : SettingsState). s.from) c.self.view_is in
    let kept = c.requires in
    rw (← c.self.view_is) (c.in-Ok.ensures.value
    ∙ between_same r.timeline.own (settings_made r.made.pieces) r.from r.timeline.settings c.self.invariant c.args.from c.args.to (omega (arith, from, kept)))
