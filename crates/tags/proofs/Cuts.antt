-- Parts of lists of tags.
use Rattle.std.proofs.Common.{◌≡◌, ℕ, zero, suc, ◌-◌, ◌<◌, ◌≤◌, ◌∙◌, ap, sym, refl, arith, true, false, List, [], ◌∷◌, length, take, drop, map, nat_lt, slice_index_or}
use Rattle.std.specs.List.Sorted.{IsPartitionPoint}
use Rattle.std.proofs.lemmas.Bool.{ltb-true, ltb-false, le-leb, lt-leb, lt-ltb, le-ltb}
use Rattle.stream_model.specs.Tags.{tags_within}
use Rattle.items.specs.declared.marks.Tag.{Tag}
use Rattle.stream_model.specs.Tags.{IsOrdered}
use Rattle.tags.specs.TagList.{tags_from}
use Rattle.tags.proofs.Order.{stored_offsets_rise}
use Rattle.tags.proofs.Kept.{kept, dropped}
use Rattle.items.specs.Tags.{tag_of}

-- the first i of the tags are on items before n, and no later one is
abbrev pub IsCut : ℕ → List Tag → ℕ → Type 0
IsCut n xs i = IsPartitionPoint (λ t. nat_lt t.offset n ≡ true) (λ t. nat_lt t.offset n ≡ false) xs i

first_before : (n : ℕ) (x : Tag) (xs : List Tag) (i : ℕ) → IsCut n (x ∷ xs) (suc i) → x.offset < n
first_before n x xs i c = ltb-true x.offset n (c.0 0 x (omega arith) (omega arith))

first_from : (n : ℕ) (x : Tag) (xs : List Tag) → IsCut n (x ∷ xs) 0 → n ≤ x.offset
first_from n x xs c = ltb-false x.offset n (c.1 0 x (omega arith) (omega arith))

rest_cut : (n : ℕ) (x : Tag) (xs : List Tag) (i : ℕ) → IsCut n (x ∷ xs) (suc i) → IsCut n xs i
rest_cut n x xs i c = (λ k d low high. c.0 (suc k) d (omega arith) (omega (arith, high)), λ k d low high. c.1 (suc k) d (omega (arith, low)) (omega (arith, high)))

rest_from : (n : ℕ) (x : Tag) (xs : List Tag) → IsCut n (x ∷ xs) 0 → IsCut n xs 0
rest_from n x xs c = (λ k d low high. absurd (omega (arith, low, high)), λ k d low high. c.1 (suc k) d (omega arith) (omega (arith, high)))

out_below : (from to : ℕ) (x : Tag) (xs : List Tag) → x.offset < from → tags_within from to (map tag_of (x ∷ xs)) ≡ tags_within from to (map tag_of xs)
out_below from to x xs lt = let e = lt-leb from x.offset lt in rw e refl

out_above : (from to : ℕ) (x : Tag) (xs : List Tag) → from ≤ x.offset → to ≤ x.offset → tags_within from to (map tag_of (x ∷ xs)) ≡ tags_within from to (map tag_of xs)
out_above from to x xs ge above = let e = le-leb from x.offset ge in let f = le-ltb x.offset to above in rw (e, f) refl

inside : (from to : ℕ) (x : Tag) (xs : List Tag) → from ≤ x.offset → x.offset < to → tags_within from to (map tag_of (x ∷ xs)) ≡ tag_of x ∷ tags_within from to (map tag_of xs)
inside from to x xs ge lt = let e = le-leb from x.offset ge in let f = lt-ltb x.offset to lt in rw (e, f) refl

more : (j : ℕ) → suc j - 0 ≡ suc (j - 0)
more j = omega arith

none : (i : ℕ) → 0 - suc i ≡ 0 - i
none i = omega arith

both : (i j : ℕ) → suc j - suc i ≡ j - i
both i j = omega arith

-- what lies between two cuts
pub between_cuts : (from to : ℕ) (xs : List Tag) (i j : ℕ) → IsCut from xs i → IsCut to xs j → i ≤ length xs → j ≤ length xs
    → map tag_of (take (j - i) (drop i xs)) ≡ tags_within from to (map tag_of xs)
between_cuts from to [] zero zero c d p q = refl
between_cuts from to [] (suc i) j c d p q = absurd (omega (arith, p))
between_cuts from to [] zero (suc j) c d p q = absurd (omega (arith, q))
between_cuts from to (x ∷ xs) zero zero c d p q =
    between_cuts from to xs 0 0 (rest_from from x xs c) (rest_from to x xs d) (omega arith) (omega arith)
    ∙ sym (out_above from to x xs (first_from from x xs c) (first_from to x xs d))
between_cuts from to (x ∷ xs) zero (suc j) c d p q =
    ap (λ n. map tag_of (take n (x ∷ xs))) (more j)
    ∙ (ap (λ ts. tag_of x ∷ ts) (between_cuts from to xs 0 j (rest_from from x xs c) (rest_cut to x xs j d) (omega arith) (omega (arith, q)))
    ∙ sym (inside from to x xs (first_from from x xs c) (first_before to x xs j d)))
between_cuts from to (x ∷ xs) (suc i) zero c d p q =
    ap (λ n. map tag_of (take n (drop i xs))) (none i)
    ∙ (between_cuts from to xs i 0 (rest_cut from x xs i c) (rest_from to x xs d) (omega (arith, p)) (omega arith)
    ∙ sym (out_below from to x xs (first_before from x xs i c)))
between_cuts from to (x ∷ xs) (suc i) (suc j) c d p q =
    ap (λ n. map tag_of (take n (drop i xs))) (both i j)
    ∙ (between_cuts from to xs i j (rest_cut from x xs i c) (rest_cut to x xs j d) (omega (arith, p)) (omega (arith, q))
    ∙ sym (out_below from to x xs (first_before from x xs i c)))

-- the tags from an item on are those behind a cut
pub from_cut : (n : ℕ) (xs : List Tag) (i : ℕ) → IsCut n xs i → i ≤ length xs → map tag_of (drop i xs) ≡ tags_from n (map tag_of xs)
from_cut n [] zero c le = refl
from_cut n [] (suc i) c le = absurd (omega (arith, le))
from_cut n (x ∷ xs) zero c le =
    ap (λ ts. tag_of x ∷ ts) (from_cut n xs 0 (rest_from n x xs c) (omega arith)) ∙ sym (kept n (tag_of x) (map tag_of xs) (first_from n x xs c))
from_cut n (x ∷ xs) (suc i) c le =
    from_cut n xs i (rest_cut n x xs i c) (omega (arith, le)) ∙ sym (dropped n (tag_of x) (map tag_of xs) (first_before n x xs i c))

-- where the first tag is on item `n` or a later one, none is before it
pub no_cut : (n : ℕ) (xs : List Tag) → IsOrdered (map tag_of xs) → ((d : Tag) → n ≤ (slice_index_or xs 0 d).offset) → IsCut n xs 0
no_cut n xs o first =
    (λ k d low high. absurd (omega (arith, low, high)), λ k d low high. le-ltb (slice_index_or xs k d).offset n (omega (arith, first d, stored_offsets_rise xs o 0 k d (omega arith) high)))
