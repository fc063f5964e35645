use Rattle.std.proofs.Common.{◌++◌, [], ◌∙◌, sym, ap, map, take, append-nil}
use Rattle.std.proofs.lemmas.List.{take-map}
use Rattle.settings.specs.Values.{held_of, placed}
use Rattle.settings.proofs.timeline.put_all.Goals as goal

pub returns : goal.returns
returns c =
    let hs = c.loop-at.held.items in
    ap (map held_of) c.truncate.ensures.items
    ∙ sym (take-map held_of c.loop-at.count hs)
    ∙ sym (append-nil (take c.loop-at.count (map held_of hs)))
    ∙ ap (λ fs. take c.loop-at.count (map held_of hs) ++ map placed fs) (sym c.in-None.ensures.steps.0)
    ∙ c.loop-at.invariant.3
