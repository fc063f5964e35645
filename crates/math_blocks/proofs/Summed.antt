-- What a moving sum gives.
use Rattle.std.proofs.Common.{◌≡◌, ℕ, zero, suc, ◌+◌, ◌-◌, ◌*◌, ◌<◌, ◌≤◌, ℤ, ◌+ℤ◌, ◌-ℤ◌, List, [], ◌∷◌, All, get_or, length, map, take, drop, w64, FitsSigned, to_z, of_z, refl, arith, ap, ◌∙◌}
use Rattle.std.proofs.lemmas.Int.{ints}
use Rattle.std.proofs.lemmas.List.{length-map}
use Rattle.std.proofs.lemmas.List.Elements.{All-map}
use Rattle.stream_model.specs.declared.vocabulary.ItemType.{ItemType}
use Rattle.stream_model.specs.Numbers.{IsItem, wrap, total}
use Rattle.stream_model.specs.Lists.{item, item_before, numbers_from, listed, sum_below}
use Rattle.stream_model.specs.Settings.{Held}
use Rattle.stream_model.specs.Meaning.{IsFed, input, given_items}
use Rattle.kind_model.specs.Math.{moving_sum}
use Rattle.shape_laws.specs.Shaped.{sum_below-same}
use Rattle.item_dispatch.proofs.Written.{read_item}
use Rattle.item_dispatch.proofs.Totals.{total_part, comes_fits, comes_sum, goes_fits, goes_sum}
use Rattle.block_trait.specs.Shape.{IsPaced}
use Rattle.block_trait.proofs.Fills.{paced, length-paced, past-paced, given-paced}

-- a sum by its first number and the others
map-shifted : (f : ℕ → ℤ) (a count : ℕ) → map f (numbers_from (a + 1) count) ≡ map (λ j. f (j + 1)) (numbers_from a count)
map-shifted f a zero = refl
map-shifted f a (suc count) = ap (λ zs. f (a + 1) ∷ zs) (map-shifted f (a + 1) count)

sum-first : (n : ℕ) (f : ℕ → ℤ) → sum_below (suc n) f ≡ f 0 +ℤ sum_below n (λ j. f (j + 1))
sum-first n f = ap (λ zs. f 0 +ℤ total zs) (map-shifted f 0 n)

-- and by its last
sum-last : (n : ℕ) (f : ℕ → ℤ) → sum_below (suc n) f ≡ sum_below n f +ℤ f n
sum-last zero f = omega (arith, ints)
sum-last (suc n) f =
    let e : f (n + 1) ≡ f (suc n) = ap f (omega arith) in
    omega (arith, ints, e, sum-first (suc n) f, sum-first n f, sum-last n (λ j. f (j + 1)))

-- numbers may be summed from the last to the first
sum-turned : (n : ℕ) (f : ℕ → ℤ) → sum_below n f ≡ sum_below n (λ j. f (n - 1 - j))
sum-turned zero f = refl
sum-turned (suc n) f =
    let turned : ℕ → ℤ = λ j. f (suc n - 1 - j) in
    let rest : sum_below n (λ j. turned (j + 1)) ≡ sum_below n (λ j. f (n - 1 - j)) = sum_below-same n (λ j. turned (j + 1)) (λ j. f (n - 1 - j)) (λ j h. ap f (omega arith)) in
    let front : turned 0 ≡ f n = ap f (omega arith) in
    omega (arith, ints, front, rest, sum-first n turned, sum-last n f, sum-turned n f)

module _ (t : ItemType) (count : ℕ) (some : 1 ≤ count) (ts : List Held) (xs : List (List ℤ)) (first n state : ℕ) (w : List ℤ) (hs : List Held)
    (fed : IsFed (moving_sum t count) ts xs first n state (w ∷ []) hs) where
  pace : IsPaced (moving_sum t count) 1 1
  pace = paced _ _ 1 1 count _ _ 0 _ (moving_sum t count).out (omega arith)

  -- the items that are taken stand behind the past that the sums read
  pub moving-length : length w ≡ count - 1 + n
  moving-length = length-paced (moving_sum t count) 1 1 pace ts xs first n state w hs fed ∙ omega arith

  -- the sums of so many items of the window are the sums that the firings give
  pub moving-given : listed n (λ k. wrap t (sum_below count (λ j. item w (k + j)))) ≡ given_items (moving_sum t count) ts xs first n 0
  moving-given =
      given-paced (moving_sum t count) 1 1 pace ts xs first n state w hs fed 0 n (λ k. wrap t (sum_below count (λ j. item w (k + j)))) (omega arith)
      (λ k h. ap (wrap t)
      (sum-turned count (λ j. item w (k + j))
      ∙ sum_below-same count (λ j. item w (k + (count - 1 - j))) (item_before (input xs 0) (1 * first + k))
      (λ j l. ap (item w) (omega arith) ∙ past-paced (moving_sum t count) 1 1 pace ts xs first n state w hs fed k j (omega arith) (omega arith))))

-- a step of a running sum over a window, of which the item `past` behind place k comes, and the one at it goes
module _ {X : Type 0} (number : X → ℤ) (items : List X) (t : ItemType) (are : All (λ x. IsItem t (number x)) items) (past n k : ℕ) (few : past ≤ 1023)
    (long : length (map number items) ≡ past + n) (near : k < n) (s : ℤ) (sum : s ≡ total (take past (drop k (map number items))))
    (come : X) (x : ℤ) (come_is : come ≡ get_or items (past + k) come) (x_is : x ≡ number come) where
  within : k + past < length (map number items)
  within = omega (arith, long, near)

  comes : x ≡ item (map number items) (k + past)
  comes = x_is ∙ read_item number items (past + k) come come_is (omega (arith, within, length-map items number)) ∙ ap (item (map number items)) (omega arith)

  pub added_fits : FitsSigned w64 (s +ℤ to_z w64 (of_z w64 x))
  added_fits =
      comes_fits t (map number items) (All-map (IsItem t) number items are) k past within (omega (arith, few)) s x (item (map number items) k) sum comes refl

  module _ (go : X) (y : ℤ) (go_is : go ≡ get_or items k go) (y_is : y ≡ number go) where
    goes : y ≡ item (map number items) k
    goes = y_is ∙ read_item number items k go go_is (omega (arith, within, length-map items number))

    pub added_sum : to_z w64 (of_z w64 (s +ℤ to_z w64 (of_z w64 x))) ≡ sum_below (past + 1) (λ j. item (map number items) (k + j))
    added_sum =
        comes_sum t (map number items) (All-map (IsItem t) number items are) k past within (omega (arith, few)) s x y sum comes goes
        ∙ total_part (map number items) k (past + 1) (omega (arith, within))

    pub taken_fits : FitsSigned w64 (to_z w64 (of_z w64 (s +ℤ to_z w64 (of_z w64 x))) -ℤ to_z w64 (of_z w64 y))
    taken_fits = goes_fits t (map number items) (All-map (IsItem t) number items are) k past within (omega (arith, few)) s x y sum comes goes

    pub taken_sum :
        to_z w64 (of_z w64 (to_z w64 (of_z w64 (s +ℤ to_z w64 (of_z w64 x))) -ℤ to_z w64 (of_z w64 y))) ≡ total (take past (drop (k + 1) (map number items)))
    taken_sum = goes_sum t (map number items) (All-map (IsItem t) number items are) k past within (omega (arith, few)) s x y sum comes goes
