use Rattle.std.proofs.Common.{ℕ, [], ◌∷◌, ◌∙◌, sym, ap, map}
use Rattle.std.proofs.lemmas.List.{map-append}
use Rattle.settings.specs.declared.value.Value.{Value}
use Rattle.settings.specs.Values.{value_of, placed}
use Rattle.settings.proofs.Cuts.{last_is, none_is}
use Rattle.settings.proofs.Entries.{map-up_to}
use Rattle.settings.proofs.timeline.Timeline.setting_at.Goals as goal

pub returns-in-Some : goal.returns-in-Some
returns-in-Some c =
    let es = c.self.inside.settings.entries in
    let found : ℕ × Value = (c.in-Some.at.now, c.in-Some.value.now) in
    rw (← c.self.view_is) (last_is (value_of c.self.inside.own) (map placed es) (map placed c.next_back.new.self) (placed found) c.args.item c.self.invariant
    (sym (map-up_to c.args.item es)
    ∙ ap (map placed) (sym (c.range.ensures.between tt) ∙ c.in-Some.ensures.steps)
    ∙ map-append placed c.next_back.new.self (found ∷ [])))

pub returns-in-None : goal.returns-in-None
returns-in-None c =
    let es = c.self.inside.settings.entries in
    rw (← c.self.view_is) (none_is (value_of c.self.inside.own) (map placed es) c.args.item c.self.invariant
    (sym (map-up_to c.args.item es) ∙ ap (map placed) (sym (c.range.ensures.between tt) ∙ c.in-None.ensures.steps.0)))
