use Rattle.std.proofs.Common.{◌≡◌, ◌∙◌, sym, rules}
use denote.Enum.Bare.{same_true}
use Rattle.stream_model.specs.contracts.vocabulary.ItemType.{the_type}
use Rattle.items.specs.Items.{type_of}
use Rattle.items.proofs.Same.{items_eq_decides}
use Rattle.plant_storage.proofs.tape.same_numbers.Goals as goal

pub returns-then-eq : goal.returns-then-eq
returns-then-eq c =
    let typed : type_of c.args.one.now ≡ type_of c.args.other.now = sym c.item_type.ensures ∙ same_true the_type (search rules) _ _ (sym c.if-eq.ensures) ∙ c.item_type-2.ensures in
    let same = items_eq_decides c.args.one.now c.args.other.now c.eq-then-eq.result c.eq-then-eq.ensures in
    (λ t. (same.0 t).1, λ e. same.1 (typed, e))
