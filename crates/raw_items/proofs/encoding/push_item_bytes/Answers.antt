use Rattle.std.proofs.Common.{◌∙◌, ap, sym, subst, ℕ, ℤ, pos, List, map, slice_range}
use Rattle.std.proofs.lemmas.List.Elements.{All-map}
use Rattle.stream_model.specs.Numbers.{IsItem}
use Rattle.stream_model.specs.declared.vocabulary.ItemType.TheVariants.{Byte}
use Rattle.raw_items.specs.Values.{all_bytes_of}
use Rattle.raw_items.proofs.Bytes.{AreByteItems, grown_by, holds_if_ok, own_bytes}
use Rattle.raw_items.proofs.RoundTrips.{items_of-all_bytes_of}
use Rattle.raw_items.proofs.Steps.{map_slice_range}
use Rattle.raw_items.proofs.encoding.push_item_bytes.Goals as goal

pub returns-in-Byte-clause-bytes : goal.returns-in-Byte-clause-bytes
returns-in-Byte-clause-bytes c =
    let numbers : List ℕ = c.in-Byte.numbers.items in
    let part : List ℕ = slice_range numbers c.args.from c.args.to in
    let are : AreByteItems part = subst (λ (xs : List ℕ). AreByteItems (slice_range xs c.args.from c.args.to)) c.deref.ensures.value c.are_in_range.ensures in
    rw c.in-Byte.is
    (grown_by c.extend_from_slice.result c.extend_from_slice.new.self.items c.args.out.now.items (slice_range c.deref-in-Byte.result.now c.args.from c.args.to) _ c.extend_from_slice.ensures.items
    (ap (λ (xs : List ℕ). slice_range xs c.args.from c.args.to) c.deref-in-Byte.ensures.value ∙ sym (own_bytes c.args.order part are)
    ∙ ap (λ (zs : List ℤ). all_bytes_of Byte c.args.order zs) (map_slice_range pos numbers c.args.from c.args.to)))

pub returns-in-Byte-clause-round_trip : goal.returns-in-Byte-clause-round_trip
returns-in-Byte-clause-round_trip c =
    let numbers : List ℕ = c.in-Byte.numbers.items in
    let part : List ℕ = slice_range numbers c.args.from c.args.to in
    let are : AreByteItems part = subst (λ (xs : List ℕ). AreByteItems (slice_range xs c.args.from c.args.to)) c.deref.ensures.value c.are_in_range.ensures in
    rw (c.in-Byte.is, ← map_slice_range pos numbers c.args.from c.args.to)
    (holds_if_ok c.extend_from_slice.result (items_of-all_bytes_of Byte c.args.order (map pos part) (All-map (IsItem Byte) pos part are)))
