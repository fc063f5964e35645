use Rattle.std.proofs.Common.{◌≡◌, ℕ, ◌^◌, ◌<◌, true, false, sym, refl, ◌∙◌}
use denote.Enum.Bare.{sameb}
use Rattle.kind_model.specs.contracts.vocabulary.BitOrder.{the_type}
use Rattle.kind_model.specs.declared.vocabulary.BitOrder.{BitOrder}
use Rattle.kind_model.specs.declared.vocabulary.BitOrder.TheVariants.{MsbFirst, LsbFirst}
use Rattle.lane_filters.specs.Streams.{reordered}
use Rattle.lane_filters.proofs.Streams.{reordered-same, turned-back}
use Rattle.lane_filters.proofs.repacked.reordered.Goals as goal

-- one order, and the other
kept : (o p : BitOrder) (count z : ℕ) → sameb the_type o p ≡ true → z < 2 ^ count → z ≡ reordered o p count z
kept MsbFirst MsbFirst count z e few = sym (reordered-same MsbFirst count z few)
kept MsbFirst LsbFirst count z e few = cc
kept LsbFirst MsbFirst count z e few = cc
kept LsbFirst LsbFirst count z e few = sym (reordered-same LsbFirst count z few)

turned : (o p : BitOrder) (count z : ℕ) → sameb the_type o p ≡ false → reordered LsbFirst MsbFirst count z ≡ reordered o p count z
turned MsbFirst MsbFirst count z e = cc
turned MsbFirst LsbFirst count z e = sym (turned-back z count)
turned LsbFirst MsbFirst count z e = refl
turned LsbFirst LsbFirst count z e = cc

pub returns-then-eq : goal.returns-then-eq
returns-then-eq c = kept c.args.read c.args.write c.args.count c.args.bits (sym c.eq.ensures ∙ c.if-eq.true) c.requires.small

pub returns : goal.returns
returns c = c.turned.ensures ∙ turned c.args.read c.args.write c.args.count c.args.bits (sym c.eq.ensures ∙ c.if-eq.false)
