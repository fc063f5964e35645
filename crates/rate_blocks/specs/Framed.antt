-- What the blocks mean that keep, put in or move items in frames of one length.
use Rattle.std.specs.Prelude.{◌≡◌, true, ◌&&◌, nat_eq}
use Rattle.std.specs.Ordering.{int_eq}
use Rattle.std.specs.Cmp.{first_so, second_so}
use Rattle.std.specs.Cmp.Rules.{signed_items}
use Rattle.std.specs.Cmp.Lexicographic.{pointwise, same_text}
use denote.Enum.Bare.{sameb}
use Rattle.std.proofs.Common.{sym}
use Rattle.stream_model.specs.contracts.vocabulary.ItemType.{the_type}
use Rattle.stream_model.specs.Meaning.{Meaning, IsLawful}
use Rattle.block_trait.specs.SameItem.{same_item, same_number}
use Rattle.kind_laws.specs.Rates.{keep_m_in_n-lawful, insert-lawful, permute-lawful, pattern-lawful}
use Rattle.kind_model.specs.Rates.{keep_m_in_n, insert, permute, pattern}
use Rattle.rate_blocks.specs.declared.insert.Insert.{Insert}
use Rattle.rate_blocks.specs.declared.keep_m_in_n.KeepMInN.{KeepMInN}
use Rattle.rate_blocks.specs.declared.pattern.Pattern.{Pattern}
use Rattle.rate_blocks.specs.declared.permute.Permute.{Permute}

abbrev pub keep_m_in_n_of : KeepMInN → Meaning
keep_m_in_n_of b = keep_m_in_n b.item b.m b.n b.offset

pub keep_m_in_n_of-lawful : (b : KeepMInN) → IsLawful (keep_m_in_n_of b)
keep_m_in_n_of-lawful b = keep_m_in_n-lawful b.item b.m b.n b.offset b.kept

-- blocks that the derived test finds equal mean the same
pub keep_m_in_n_of-same :
    (a b : KeepMInN) → (sameb the_type a.item b.item && (nat_eq a.m b.m &&
    (nat_eq a.n b.n && nat_eq a.offset b.offset))) ≡ true → keep_m_in_n_of a ≡ keep_m_in_n_of b
keep_m_in_n_of-same a b e =
    let items_same = same_item a.item b.item (first_so (sameb the_type a.item b.item)
    (nat_eq a.m b.m && (nat_eq a.n b.n && nat_eq a.offset b.offset)) e) in
    let rest = second_so (sameb the_type a.item b.item) (nat_eq a.m b.m && (nat_eq a.n b.n && nat_eq a.offset b.offset))
    e in
    let ms_same = same_number a.m b.m (first_so (nat_eq a.m b.m) (nat_eq a.n b.n && nat_eq a.offset b.offset) rest) in
    let last = second_so (nat_eq a.m b.m) (nat_eq a.n b.n && nat_eq a.offset b.offset) rest in
    let ns_same = same_number a.n b.n (first_so (nat_eq a.n b.n) (nat_eq a.offset b.offset) last) in
    let offsets_same = same_number a.offset b.offset (second_so (nat_eq a.n b.n) (nat_eq a.offset b.offset) last) in
    λ i. keep_m_in_n (items_same i) (ms_same i) (ns_same i) (offsets_same i)

abbrev pub insert_of : Insert → Meaning
insert_of b = insert b.item b.values.items b.period b.offset

pub insert_of-lawful : (b : Insert) → IsLawful (insert_of b)
insert_of-lawful b = insert-lawful b.item b.values.items b.period b.offset b.is

pub insert_of-same :
    (a b : Insert) → (sameb the_type a.item b.item && (pointwise int_eq a.values.items b.values.items &&
    (nat_eq a.period b.period && nat_eq a.offset b.offset))) ≡ true →
    insert_of a ≡ insert_of b
insert_of-same a b e =
    let numbers = nat_eq a.period b.period && nat_eq a.offset b.offset in
    let items_same = same_item a.item b.item (first_so (sameb the_type a.item b.item)
    (pointwise int_eq a.values.items b.values.items && numbers) e) in
    let rest = second_so (sameb the_type a.item b.item) (pointwise int_eq a.values.items b.values.items && numbers) e in
    let values_same = (signed_items a.values.items b.values.items).0
    (first_so (pointwise int_eq a.values.items b.values.items) numbers rest) in
    let last = second_so (pointwise int_eq a.values.items b.values.items) numbers rest in
    let periods_same = same_number a.period b.period (first_so (nat_eq a.period b.period) (nat_eq a.offset b.offset)
    last) in
    let offsets_same = same_number a.offset b.offset (second_so (nat_eq a.period b.period) (nat_eq a.offset b.offset)
    last) in
    λ i. insert (items_same i) (values_same i) (periods_same i) (offsets_same i)

abbrev pub permute_of : Permute → Meaning
permute_of b = permute b.item b.order.items

pub permute_of-lawful : (b : Permute) → IsLawful (permute_of b)
permute_of-lawful b = permute-lawful b.item b.order.items b.is

pub permute_of-same : (a b : Permute) → (sameb the_type a.item b.item && pointwise nat_eq a.order.items b.order.items)
    ≡ true → permute_of a ≡ permute_of b
permute_of-same a b e =
    let items_same = same_item a.item b.item (first_so (sameb the_type a.item b.item)
    (pointwise nat_eq a.order.items b.order.items) e) in
    let orders_same = same_text a.order.items b.order.items (sym (second_so (sameb the_type a.item b.item)
    (pointwise nat_eq a.order.items b.order.items) e)) in
    λ i. permute (items_same i) (orders_same i)

abbrev pub pattern_of : Pattern → Meaning
pattern_of b = pattern b.item b.values.items

pub pattern_of-lawful : (b : Pattern) → IsLawful (pattern_of b)
pattern_of-lawful b = pattern-lawful b.item b.values.items b.are.items

pub pattern_of-same : (a b : Pattern) → (sameb the_type a.item b.item && pointwise int_eq a.values.items b.values.items)
    ≡ true → pattern_of a ≡ pattern_of b
pattern_of-same a b e =
    let items_same = same_item a.item b.item (first_so (sameb the_type a.item b.item)
    (pointwise int_eq a.values.items b.values.items) e) in
    let values_same = (signed_items a.values.items b.values.items).0
    (second_so (sameb the_type a.item b.item) (pointwise int_eq a.values.items b.values.items) e) in
    λ i. pattern (items_same i) (values_same i)
