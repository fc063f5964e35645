-- Words on lists that the definitions share.
use Rattle.std.specs.List.{range_with_len}
use Rattle.std.specs.Prelude.{◌≡◌, ℕ, zero, suc, ◌+◌, ◌-◌, ℤ, pos, List, ◌++◌, map, Bool, true, false, slice_index_or, nat_le, if◌then◌else◌, take, drop, replicate}
use Rattle.stream_model.specs.Numbers.{total}

-- n, n + 1 and so on: count numbers
abbrev pub numbers_from : ℕ → ℕ → List ℕ
numbers_from n count = range_with_len n count

-- 0 to n - 1
abbrev pub below : ℕ → List ℕ
below n = numbers_from 0 n

-- the list of so many items whose item n is f n
abbrev pub listed : ℕ → (ℕ → ℤ) → List ℤ
listed count f = map f (below count)

-- the sum of f j over the j below count
abbrev pub sum_below : ℕ → (ℕ → ℤ) → ℤ
sum_below count f = total (map f (below count))

-- item n of a list, 0 past its end
abbrev pub item : List ℤ → ℕ → ℤ
item xs n = slice_index_or xs n (pos 0)

-- item n - back of a list, where the past before item 0 is zeros
abbrev pub item_before : List ℤ → ℕ → ℕ → ℤ
item_before xs n back = if nat_le back n then item xs (n - back) else pos 0

-- items from - past to below to of a list, with zeros before item 0
abbrev pub window : List ℤ → ℕ → ℕ → ℕ → List ℤ
window xs past from to = take (past + to - from) (drop from (replicate past (pos 0) ++ xs))

-- how many of the tests 1, 2, .. up to most pass, until the first that fails: the greatest such number where each test
-- implies those before it
abbrev pub greatest_from : (ℕ → Bool) → ℕ → ℕ → ℕ
greatest_from ok n zero = n
greatest_from ok n (suc more) = elim (ok (suc n)) [ true ↦ greatest_from ok (suc n) more | false ↦ n ]

abbrev pub greatest : (ℕ → Bool) → ℕ → ℕ
greatest ok most = greatest_from ok 0 most

-- xs is a beginning of ys
pub record IsBeginning {A : Type 0} (xs ys : List A) : Type 0 where
  pub rest : List A
  pub is : ys ≡ xs ++ rest
