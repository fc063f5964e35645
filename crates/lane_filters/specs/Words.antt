-- Words of the contracts on vectors.
use Rattle.std.specs.Prelude.{◌≡◌, ℕ, zero, suc, [], ◌∷◌, sum_by, ◌+◌, ◌-◌, ◌*◌, ◌/◌, ◌%◌, ◌^◌, slice_index, ◌≤◌, ◌<◌, ℤ, pos, ◌*ℤ◌, ◌+ℤ◌, ◌-ℤ◌, List, length, map, Option, Some, None}
use Rattle.std.specs.Int.RustNames.{unsigned_abs}
use Rattle.std.specs.Simd.Lanes.{Each1}
use Rattle.stream_model.specs.Lists.{sum_below, item, numbers_from}
use Rattle.kind_model.specs.Kernels.{previous}
use Rattle.stream_model.specs.Numbers.{sat, rnd, residue}
use Rattle.stream_model.specs.declared.vocabulary.ItemType.{ItemType}
use Rattle.stream_model.specs.declared.vocabulary.ItemType.TheVariants.{Byte, Short, Int}
use Rattle.lane_filters.specs.declared.halves.Halves.{Halves}

-- each number is at most so far from 0
abbrev pub AreWithin : ℕ → List ℤ → Type 0
AreWithin most xs = Each1 (λ z. unsigned_abs z ≤ most) xs

-- the products of the first so many taps and their items, at output n, summed
abbrev pub tap_sum : List ℤ → List ℤ → ℕ → ℕ → ℤ
tap_sum h x count n = sum_below count (λ j. item h j *ℤ item x (n + length h - 1 - j))

-- those sums at eight outputs, the first at output `at`
abbrev pub tap_sums : List ℤ → List ℤ → ℕ → ℕ → List ℤ
tap_sums h x count at = map (tap_sum h x count) (numbers_from at 8)

-- every other number of sixteen
abbrev pub every_other : ℕ → List ℕ
every_other n = n ∷ (n + 2) ∷ (n + 4) ∷ (n + 6) ∷ (n + 8) ∷ (n + 10) ∷ (n + 12) ∷ (n + 14) ∷ []

-- those sums at every other output of sixteen
abbrev pub spread_sums : List ℤ → List ℤ → ℕ → ℕ → List ℤ
spread_sums h x count at = map (tap_sum h x count) (every_other at)

-- the taps' distances from 0, summed
abbrev pub weight : List ℤ → ℕ
weight h = sum_by unsigned_abs h

-- 256 times the high half and the low one are the tap, and neither is more than 128 from 0
abbrev pub AreHalvesOf : ℤ → ℤ → ℤ → Type 0
AreHalvesOf tap high low = (tap ≡ (pos 256 *ℤ high) +ℤ low) × (unsigned_abs high ≤ 128) × (unsigned_abs low ≤ 128)

-- the lists begin with the halves of each tap
abbrev pub AreHalves : List ℤ → List ℤ → List ℤ → Type 0
AreHalves h high low =
    (length h ≤ length high)
    × (length h ≤ length low)
    × ((j : ℕ) → j < length h → AreHalvesOf (item h j) (item high j) (item low j))

-- the sums of shorts and the taps, and these rounded, fit 32 bits
abbrev pub IsLight : ItemType → List ℤ → ℕ → Type 0
IsLight Short h shift = (weight h < 2 ^ 16) × (shift ≤ 15)
IsLight Byte h shift = Unit {0}
IsLight Int h shift = Unit {0}

-- what a row goes by: the halves of its taps, or the taps themselves, which are light if the items are shorts
abbrev pub IsPlan : ItemType → List ℤ → ℕ → Option Halves → Type 0
IsPlan t h shift (Some halves) = AreHalves h halves.high halves.low
IsPlan t h shift None = IsLight t h shift

-- a times every other item of sixteen plus b times the one behind it
abbrev pub paired : ℤ → ℤ → List ℤ → List ℤ
paired a b x = map (λ k. (a *ℤ item x k) +ℤ (b *ℤ item x (k + 1))) (every_other 0)

-- the output that those sums of all taps give
abbrev pub output : ItemType → List ℤ → List ℤ → ℕ → ℕ → ℤ
output t h x shift n = sat t (rnd (tap_sum h x (length h) n) shift)

-- the product of tap j and item j
abbrev pub tap_product : List ℤ → List ℤ → ℕ → ℤ
tap_product h x j = item h j *ℤ item x j

-- two bytes' difference modulo m
abbrev pub byte_difference : ℕ → ℕ → ℕ → ℕ
byte_difference m now past = residue (pos now -ℤ pos past) m

-- item n of the decoded differences
abbrev pub decoded : ℕ → ℤ → List ℤ → ℕ → ℤ
decoded m before x n = pos (residue (item x n -ℤ previous before x n) m)

-- the number whose bits are the lowest bits of the first so many items, the first highest
abbrev pub first_bits : List ℕ → ℕ → ℕ
first_bits x zero = 0
first_bits x (suc n) = 2 * first_bits x n + slice_index x n % 2

-- bit j of the lowest k bits of a byte, counted from the highest
abbrev pub bit_of : ℕ → ℕ → ℕ → ℕ
bit_of k byte j = byte / 2 ^ (k - 1 - j) % 2
