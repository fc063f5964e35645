use Rattle.std.proofs.Common.{pos}
use Rattle.std.proofs.lemmas.List.Elements.{All-map}
use Rattle.stream_model.specs.Numbers.{IsItem}
use Rattle.stream_model.specs.declared.vocabulary.ItemType.TheVariants.{Byte}
use Rattle.items.proofs.stream_items.Items.in_range.Goals as goal

pub returns-in-Byte : goal.returns-in-Byte
returns-in-Byte c = rw (c.in-Byte.is, ← c.deref.ensures.value) (All-map (IsItem Byte) pos c.deref.result.now c.are_in_range.ensures)
