use Rattle.std.proofs.Common.{◌≡◌, ◌-◌, ◌^◌, ◌/◌, ◌%◌, ◌<◌, map}
use Rattle.kind_model.specs.declared.vocabulary.BitOrder.TheVariants.{LsbFirst}
use Rattle.kind_model.specs.BitStreams.{number_by}
use Rattle.stream_model.specs.Lists.{numbers_from}
use Rattle.code_blocks.proofs.crc.turned.Given as goal

abbrev pub invariant-loop-k : goal.invariant-loop-k
invariant-loop-k l = record {
  number : l.number ≡ number_by LsbFirst (map (λ j. l.register / 2 ^ (l.bits - 1 - j) % 2) (numbers_from (l.bits - l.k) l.k));
  less : l.number < 2 ^ l.k;
}
