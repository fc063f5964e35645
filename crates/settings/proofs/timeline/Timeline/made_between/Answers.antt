use Rattle.std.proofs.Common.{◌∷◌, ◌∙◌, ap, map, arith}
use Rattle.stream_model.specs.Settings as model
use Rattle.settings.specs.Values.{value_of, placed}
use Rattle.settings.proofs.Cuts.{made_is}
use Rattle.settings.proofs.Entries.{map-made}
use Rattle.settings.proofs.timeline.Timeline.made_between.Goals as goal

pub returns : goal.returns
returns c =
    let es = c.self.inside.settings.entries in
    let own = value_of c.self.inside.own in
    rw (← c.self.view_is) (
    ap (λ fs. model.setting_at own (map placed es) c.args.from ∷ map placed fs) (c.range-2.ensures.between tt)
    ∙ ap (λ hs. model.setting_at own (map placed es) c.args.from ∷ hs) (map-made c.args.from c.args.to es)
    ∙ made_is own (map placed es) c.args.from c.args.to c.self.invariant (omega arith))
