use Rattle.std.proofs.Common.{rules, ◌≡◌, ◌+◌, ◌∷◌, ◌++◌, [], ◌∙◌, ap, map, take, refl, arith}
use Rattle.std.proofs.lemmas.Grind.{take-set_at}
use Rattle.std.proofs.lemmas.List.{map-set, length-map}
use Rattle.settings.specs.Values.{value_of, held_of}
use Rattle.settings.specs.Timelines.{held_at}
use Rattle.settings.proofs.timeline.put.Goals as goal

pub returns-in_ok-copy_from-clause-value : goal.returns-in_ok-copy_from-clause-value
returns-in_ok-copy_from-clause-value c =
    let hs = c.args.held.now.items in
    let at = c.args.place in
    let copied : held_of c.copy_from.new.self ≡ held_at c.args.at (value_of c.args.value.now) = search rules in
    ap (take (at + 1)) (map-set held_of hs at c.copy_from.new.self)
    ∙ take-set_at (map held_of hs) at (at + 1) (held_of c.copy_from.new.self) refl (omega (arith, length-map hs held_of))
    ∙ ap (λ h. take at (map held_of hs) ++ h ∷ []) copied
