-- Places that keep their room hold what they held.
use Rattle.std.proofs.Common.{◌<◌, ◌∙◌, ℕ, List, length, arith}
use Rattle.stream_model.specs.Network.{Network}
use Rattle.stream_model.specs.declared.vocabulary.ItemType.{ItemType}
use Rattle.items.specs.declared.stream_items.Items.{Items}
use Rattle.plant_transfers.specs.Places.{ArePlaces, KeepRoom, HoldWindows, HoldOutputs}

are_still : (item : ItemType) (count : ℕ) (old new : List Items) → KeepRoom old new → ArePlaces item count old → ArePlaces item count new
are_still item count old new kept are = record {
  many = kept.many ∙ are.many;
  types = λ p d less. let here : p < length old = omega (arith, less, kept.many) in (kept.each p d here).type ∙ are.types p d here;
}

pub still_hold_windows : (net : Network) (b k next : ℕ) (old new : List Items) → KeepRoom old new → HoldWindows net b k next old → HoldWindows net b k next new
still_hold_windows net b k next old new kept hold = record {
  are = are_still _ _ old new kept hold.are;
  fit = λ p d less. let before = hold.fit p d less in let more = (kept.each p d (omega (arith, less, hold.are.many))).room in omega arith;
}

pub still_hold_outputs : (net : Network) (b k next : ℕ) (old new : List Items) → KeepRoom old new → HoldOutputs net b k next old → HoldOutputs net b k next new
still_hold_outputs net b k next old new kept hold = record {
  are = are_still _ _ old new kept hold.are;
  fit = λ p d less. let here : p < length old = omega (arith, less, kept.many) in let before = hold.fit p d here in let more = (kept.each p d here).room in omega arith;
}
