-- Sums of products of taps and items.
use Rattle.std.proofs.Common.{◌≡◌, ℕ, zero, suc, ◌+◌, ◌-◌, ◌*◌, ◌^◌, ◌≤◌, ℤ, pos, ◌+ℤ◌, ◌*ℤ◌, List, map, length, take, drop, refl, arith, ap, sym, ◌∙◌}
use Rattle.std.specs.Int.RustNames.{unsigned_abs}
use Rattle.std.proofs.lemmas.Int.{ints, unsigned_abs-mul}
use Rattle.std.proofs.lemmas.List.{get_or-take, get_or-drop, drop-map, take-map}
use Rattle.std.proofs.Math.Nat.{mul-le-mul}
use Rattle.stream_model.specs.declared.vocabulary.ItemType.{ItemType}
use Rattle.stream_model.specs.declared.vocabulary.ItemType.TheVariants.{Short}
use Rattle.stream_model.specs.Numbers.{IsItem, AreItems, total}
use Rattle.stream_model.specs.Lists.{item, numbers_from, sum_below}
use Rattle.kind_model.specs.Kernels.{dot}
use Rattle.shape_laws.specs.Shaped.{IsItem-item, sum_below-same}
use Rattle.numbers.proofs.Widths.{short_near}
use Rattle.lane_filters.proofs.Signed.{abs_add}
use Rattle.lane_filters.proofs.Taps.{item_near}

product_near : (t : ItemType) (a b : ℤ) → IsItem Short a → IsItem t b → unsigned_abs (a *ℤ b) ≤ 2 ^ 46
product_near t a b h k = rw (unsigned_abs-mul a b) (mul-le-mul {n₂ = 2 ^ 15} {m₂ = 2 ^ 31} (short_near a h) (item_near t b k))

sum_near : (f : ℕ → ℤ) (a count : ℕ) → ((j : ℕ) → unsigned_abs (f j) ≤ 2 ^ 46) → unsigned_abs (total (map f (numbers_from a count))) ≤ count * 2 ^ 46
sum_near f a zero near = omega arith
sum_near f a (suc count) near = omega (arith, abs_add (f a) (total (map f (numbers_from (a + 1) count))), near a, sum_near f (a + 1) count near)

-- a dot of at most 256 taps is far from the ends of 64 bits
pub dot_near :
    {X : Type 0} (t : ItemType) (number : X → ℤ) (h : List ℤ) (x : List X) → AreItems Short h → AreItems t (map number x) → length h ≤ 256 →
    unsigned_abs (dot h (map number x)) ≤ 2 ^ 60
dot_near t number h x taps items few =
    omega (
      arith,
      sum_near (λ j. item h j *ℤ item (map number x) j) 0 (length h)
          (λ j. product_near t (item h j) (item (map number x) j) (IsItem-item Short h j taps) (IsItem-item t (map number x) j items)),
    )

-- the dot with a part of some items
pub dot_part :
    {X : Type 0} (number : X → ℤ) (h : List ℤ) (w : List X) (at b v : ℕ) → length h ≡ b → v ≡ b →
    dot h (map number (take v (drop at w))) ≡ sum_below b (λ j. item h j *ℤ item (map number w) (at + j))
dot_part number h w at b v long size =
    (λ i. sum_below (long i) (λ j. item h j *ℤ item (map number (take (size i) (drop at w))) j))
    ∙ sum_below-same b _ _ (λ j within. ap (λ z. item h j *ℤ z)
    (ap (λ zs. item zs j) (sym (take-map number b (drop at w)) ∙ ap (take b) (sym (drop-map number at w)))
    ∙ get_or-take b (drop at (map number w)) j (pos 0) within ∙ get_or-drop at (map number w) j (pos 0)))

-- a sum counted from its other end
sum_more : (f : ℕ → ℤ) (a count : ℕ) → total (map f (numbers_from a (suc count))) ≡ total (map f (numbers_from a count)) +ℤ f (a + count)
sum_more f a zero = let e : f (a + 0) ≡ f a = ap f (omega arith) in omega (arith, ints, e)
sum_more f a (suc count) =
    let e : f (a + 1 + count) ≡ f (a + suc count) = ap f (omega arith) in omega (arith, ints, e, sum_more f (a + 1) count)

sum_later : (f : ℕ → ℤ) (a count : ℕ) → total (map f (numbers_from (a + 1) count)) ≡ total (map (λ j. f (suc j)) (numbers_from a count))
sum_later f a zero = refl
sum_later f a (suc count) =
    let e : f (a + 1) ≡ f (suc a) = ap f (omega arith) in omega (arith, ints, e, sum_later f (a + 1) count)

pub sum_reversed : (f : ℕ → ℤ) (count : ℕ) → sum_below count f ≡ sum_below count (λ j. f (count - 1 - j))
sum_reversed f zero = refl
sum_reversed f (suc count) =
    let rest : sum_below count (λ j. f (suc j)) ≡ sum_below count (λ j. f (suc count - 1 - j)) =
    sum_reversed (λ j. f (suc j)) count ∙ sum_below-same count _ _ (λ j within. ap f (omega arith)) in
    let last : f (suc count - 1 - (0 + count)) ≡ f 0 = ap f (omega arith) in
    let begun : total (map f (numbers_from (0 + 1) count)) ≡ sum_below count (λ j. f (suc j)) = sum_later f 0 count in
    omega (arith, ints, begun, rest, last, sum_more (λ j. f (suc count - 1 - j)) 0 count)
