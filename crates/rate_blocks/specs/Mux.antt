-- What the blocks mean whose inputs or outputs take turns.
use Rattle.std.specs.Prelude.{ℕ, List, take}
use Rattle.std.specs.Prelude.{◌≡◌, true, ◌&&◌}
use Rattle.std.specs.Cmp.{first_so, second_so}
use Rattle.std.specs.Cmp.Lexicographic.{pointwise, same_text}
use denote.Enum.Bare.{sameb}
use Rattle.stream_model.specs.contracts.vocabulary.ItemType.{the_type}
use Rattle.std.proofs.Common.{arith, nat_eq, sym}
use Rattle.block_trait.specs.SameItem.{same_item, same_number}
use Rattle.stream_model.specs.Meaning.{Meaning, IsLawful}
use Rattle.kind_laws.specs.Rates.{interleave-lawful, deinterleave-lawful, stream_mux-lawful}
use Rattle.kind_model.specs.Rates.{interleave, deinterleave, stream_mux}
use Rattle.rate_blocks.specs.declared.interleave.Interleave.{Interleave}
use Rattle.rate_blocks.specs.declared.deinterleave.Deinterleave.{Deinterleave}
use Rattle.rate_blocks.specs.declared.stream_mux.StreamMux.{StreamMux}

abbrev pub interleave_of : Interleave → Meaning
interleave_of b = interleave b.item b.ports.value

abbrev pub deinterleave_of : Deinterleave → Meaning
deinterleave_of b = deinterleave b.item b.ports.value

pub interleave_of-lawful : (b : Interleave) → IsLawful (interleave_of b)
interleave_of-lawful b = interleave-lawful b.item b.ports.value b.ports.some (omega (arith, b.ports.few))

pub deinterleave_of-lawful : (b : Deinterleave) → IsLawful (deinterleave_of b)
deinterleave_of-lawful b = deinterleave-lawful b.item b.ports.value b.ports.some (omega (arith, b.ports.few))

-- the lengths of a mux, one for each input
abbrev pub lengths_of : StreamMux → List ℕ
lengths_of b = take b.count b.lengths

abbrev pub stream_mux_of : StreamMux → Meaning
stream_mux_of b = stream_mux b.item (lengths_of b)

pub stream_mux_of-lawful : (b : StreamMux) → IsLawful (stream_mux_of b)
stream_mux_of-lawful b = stream_mux-lawful b.item (lengths_of b) b.is_mux

-- blocks that the derived test finds equal mean the same
pub stream_mux_of-same :
    (a b : StreamMux) → (sameb the_type a.item b.item && (pointwise nat_eq a.lengths b.lengths && nat_eq a.count
    b.count)) ≡ true → stream_mux_of a ≡ stream_mux_of b
stream_mux_of-same a b e =
    let rest = second_so (sameb the_type a.item b.item) (pointwise nat_eq a.lengths b.lengths && nat_eq a.count b.count)
    e in
    let items_same = same_item a.item b.item (first_so (sameb the_type a.item b.item)
    (pointwise nat_eq a.lengths b.lengths && nat_eq a.count b.count) e) in
    let lengths_same = same_text a.lengths b.lengths (sym (first_so (pointwise nat_eq a.lengths b.lengths)
    (nat_eq a.count b.count) rest)) in
    let counts_same = same_number a.count b.count (second_so (pointwise nat_eq a.lengths b.lengths)
    (nat_eq a.count b.count) rest) in
    λ i. stream_mux (items_same i) (take (counts_same i) (lengths_same i))
