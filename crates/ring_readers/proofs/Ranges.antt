-- Parts of two lists, one behind the other.
use Rattle.std.proofs.Common.{◌≡◌, ℕ, ◌+◌, ◌-◌, ◌≤◌, min, ◌∙◌, ap, sym, inl, inr, List, ◌++◌, length, map, take, drop, slice_range, arith, length-drop}
use Rattle.std.proofs.lemmas.Bool.{cases_lt}
use Rattle.std.proofs.lemmas.List.{append-nil, drop-append-le, take-append-le, drop_all, take_all, take_min, drop_min, take-append-drop, map-append, take-map, drop-map, length-map}
use Rattle.std.proofs.Math.Seq.{drop-append-add, take-append-add, take-append_seam, drop-append_seam}
use Rattle.circular_buffer.specs.Buffer.{keep_last}

pub drop-append : {X : Type 0} (n : ℕ) (xs ys : List X) → drop n (xs ++ ys) ≡ drop n xs ++ drop (n - length xs) ys
drop-append n xs ys = elim (cases_lt (length xs) n) [
  | inl more ↦
      let whole : length xs + (n - length xs) ≡ n = omega arith in
      ap (λ k. drop k (xs ++ ys)) (sym whole) ∙ drop-append-add xs ys (n - length xs)
      ∙ ap (λ l. l ++ drop (n - length xs) ys) (sym (drop_all n xs (omega arith)))
  | inr less ↦
      let none : 0 ≡ n - length xs = omega arith in
      drop-append-le n xs ys less ∙ ap (λ k. drop n xs ++ drop k ys) none
]

pub take-append : {X : Type 0} (n : ℕ) (xs ys : List X) → take n (xs ++ ys) ≡ take n xs ++ take (n - length xs) ys
take-append n xs ys = elim (cases_lt (length xs) n) [
  | inl more ↦
      let whole : length xs + (n - length xs) ≡ n = omega arith in
      ap (λ k. take k (xs ++ ys)) (sym whole) ∙ take-append-add xs ys (n - length xs)
      ∙ ap (λ l. l ++ take (n - length xs) ys) (sym (take_all n xs (omega arith)))
  | inr less ↦
      let none : 0 ≡ n - length xs = omega arith in
      take-append-le n xs ys less ∙ sym (append-nil (take n xs)) ∙ ap (λ k. take n xs ++ take k ys) none
]

-- a range of both is a range of the first and one of the second
pub slice_range-append : {X : Type 0} (xs ys : List X) (i j : ℕ) → i ≤ j
    → slice_range (xs ++ ys) i j ≡ slice_range xs (min i (length xs)) (min j (length xs)) ++ slice_range ys (i - length xs) (j - length xs)
slice_range-append xs ys i j ordered =
    let long = length-drop i xs in
    let first : min (j - i) (length (drop i xs)) ≡ min j (length xs) - min i (length xs) = omega arith in
    let second : j - i - length (drop i xs) ≡ j - length xs - (i - length xs) = omega arith in
    ap (take (j - i)) (drop-append i xs ys)
    ∙ take-append (j - i) (drop i xs) (drop (i - length xs) ys)
    ∙ (λ k. (sym (take_min (j - i) (drop i xs)) ∙ (λ m. take (first m) (sym (drop_min i xs) m))) k ++ take (second k) (drop (i - length xs) ys))

-- a function of each of the last items
pub map-keep_last : {X Y : Type 0} (f : X → Y) (n : ℕ) (xs ys : List X) → map f (keep_last n (xs ++ ys)) ≡ keep_last n (map f xs ++ map f ys)
map-keep_last f n xs ys =
    sym (drop-map f (length (xs ++ ys) - n) (xs ++ ys))
    ∙ (λ i. drop ((ap (λ l. l - n) (sym (length-map (xs ++ ys) f)) ∙ ap (λ l. length l - n) (map-append f xs ys)) i) (map-append f xs ys i))

-- a list has the same numbers as one behind another where its parts do
pub same_parts : {X Y : Type 0} (f : X → Y) (items xs ys whole start rest : List X) → xs ++ ys ≡ whole → length items ≡ length xs + length ys → start ≡ take (length xs) items → rest ≡ drop (length xs) items
    → (map f items ≡ map f whole → (map f start ≡ map f xs) × (map f rest ≡ map f ys)) × (map f start ≡ map f xs → map f rest ≡ map f ys → map f items ≡ map f whole)
same_parts f items xs ys whole start rest is_whole long is_start is_rest =
    let split : map f whole ≡ map f xs ++ map f ys = ap (map f) (sym is_whole) ∙ map-append f xs ys in
    let size : length (map f xs) ≡ length xs = length-map xs f in (
      λ same. (
        ap (map f) is_start ∙ sym (take-map f (length xs) items) ∙ ap (take (length xs)) (same ∙ split) ∙ ap (λ n. take n (map f xs ++ map f ys)) (sym size) ∙ take-append_seam (map f xs) (map f ys),
        ap (map f) is_rest ∙ sym (drop-map f (length xs) items) ∙ ap (drop (length xs)) (same ∙ split) ∙ ap (λ n. drop n (map f xs ++ map f ys)) (sym size) ∙ drop-append_seam (map f xs) (map f ys),
      ),
      λ first second.
          ap (map f) (sym (take-append-drop (length xs) items) ∙ (λ i. sym is_start i ++ sym is_rest i)) ∙ map-append f start rest ∙ (λ i. first i ++ second i) ∙ sym split,
    )
