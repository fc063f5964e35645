use Rattle.std.proofs.Common.{◌≡◌}
use Rattle.kind_model.specs.declared.vocabulary.BitOrder.TheVariants.{MsbFirst, LsbFirst}
use Rattle.lane_filters.specs.Streams.{reordered}
use Rattle.lane_filters.proofs.repacked.turned.Given as goal

abbrev pub invariant-loop-place : goal.invariant-loop-place
invariant-loop-place l = l.turned ≡ reordered LsbFirst MsbFirst l.place l.bits
