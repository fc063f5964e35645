use Rattle.std.proofs.Common.{refl, ap}
use Rattle.kind_model.specs.Rates.{permute}
use Rattle.rate_blocks.proofs.Reordered.{order-of_places, order-unsigned}
use Rattle.rate_blocks.proofs.permute.Permute.new.Goals as goal

pub invariant_of-result : goal.invariant_of-result
invariant_of-result c =
    record { is = order-of_places c.args.places.now c.in_ok-narrowed.field-0.items c.in_ok-narrowed.ensures.value (c.if-not-are_places.ensures.0 refl) }

pub returns-clause-meaning : goal.returns-clause-meaning
returns-clause-meaning c = ap (permute c.args.item) (order-unsigned c.args.places.now c.in_ok-narrowed.field-0.items c.in_ok-narrowed.ensures.value)
