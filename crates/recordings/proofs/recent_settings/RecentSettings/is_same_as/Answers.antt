use Rattle.std.proofs.Common.{◌∙◌, ap}
use Rattle.recordings.specs.Recent.{SettingsState, settings_made}
use Rattle.recordings.proofs.PastSettings.{all_there}
use Rattle.recordings.proofs.recent_settings.RecentSettings.is_same_as.Goals as goal

pub returns : goal.returns
returns c =
    let r = c.self.inside in
    let from = ap (λ (s : SettingsState). s.from) c.self.view_is in
    let all = all_there r.timeline.own (settings_made r.made.pieces) r.from r.timeline.settings c.self.invariant (from ∙ c.requires) in
    rw (← c.self.view_is, ← all) c.is_same_as.ensures
