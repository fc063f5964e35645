use Rattle.std.proofs.Common.{ap, arith}
use Rattle.recordings.specs.Recent.{SettingsState, settings_made}
use Rattle.recordings.proofs.PastSettings.{fewer}
use Rattle.recordings.proofs.recent_settings.RecentSettings.forget.Goals as goal

pub invariant_of-self : goal.invariant_of-self
invariant_of-self c =
    let r = c.self.inside in
    let from = ap (λ (s : SettingsState). s.from) c.self.view_is in
    let kept = c.requires in
    rw (c.prune.ensures.own, c.prune.ensures.settings)
    (fewer r.timeline.own (settings_made r.made.pieces) r.from r.timeline.settings c.self.invariant c.args.to (omega (arith, from, kept)))
