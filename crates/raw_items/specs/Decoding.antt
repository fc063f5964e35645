-- What a decoder holds, and what it has made of the bytes so far.
use Rattle.std.specs.Prelude.{◌≡◌, ℕ, ℤ, List, ◌++◌}
use Rattle.stream_model.specs.declared.vocabulary.ItemType.{ItemType}
use Rattle.raw_items.specs.declared.byte_order.ByteOrder.{ByteOrder}
use Rattle.raw_items.specs.Layout.{cut_of}
use Rattle.raw_items.specs.Values.{items_of}

-- the type of the items, the order of their bytes, and the bytes of an item whose end has not come
pub record Decoding : Type 0 where
  pub item_type : ItemType
  pub order : ByteOrder
  pub cut : List ℕ

-- the decoder has made the items of all these bytes, which stand behind those that were there at the start, and holds
-- the bytes behind the last of them
pub record HasDecoded (decoder : Decoding) (bytes : List ℕ) (start out : List ℤ) : Type 0 where
  pub items : out ≡ start ++ items_of decoder.item_type decoder.order bytes
  pub cut : decoder.cut ≡ cut_of decoder.item_type bytes
