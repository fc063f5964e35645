-- The longest skip that is balanced: a search through its iterations would take long to compute, and no capacity needed passes one item.
use Rattle.std.proofs.Common.{◌≡◌, ℕ, zero, suc, ◌+◌, ◌-◌, ◌≤◌, max, Bool, true, false, not, List, [], ◌∷◌, map, Some, None, refl, arith, sym, subst, nat_le}
use Rattle.std.proofs.lemmas.Bool.{le-leb, and_from}
use Rattle.std.specs.Prelude.{fold}
use Rattle.stream_model.specs.declared.vocabulary.ItemType.TheVariants.{Byte}
use Rattle.stream_model.specs.Lists.{numbers_from, greatest}
use Rattle.stream_model.specs.Network.{Connection, Network}
use Rattle.kind_model.specs.Rates.{skiphead}
use Rattle.graph_model.specs.Rates.{Balanced, TooLarge, balance_of, count_limit, ahead, needed_on, past_skips, is_past_skips, fits_limit}
use Rattle.worked_rows.specs.Rates.{around, link}

-- the greatest of numbers that are all small is small
pub greatest_of-le : (f : ℕ → ℕ) (most acc n count : ℕ) → acc ≤ most → ((k : ℕ) → f k ≤ most) → fold max acc (map f (numbers_from n count)) ≤ most
greatest_of-le f most acc n zero small all = small
greatest_of-le f most acc n (suc count) small all =
    let here : f n ≤ most = all n in
    let next : max acc (f n) ≤ most = omega arith in
    greatest_of-le f most (max acc (f n)) (n + 1) count next all

pub needed_on-le : (net : Network) (q : List ℕ) (j most : ℕ) (c : Connection) → ((n : ℕ) → ahead net q c n ≤ most) → needed_on net q j c ≤ most
needed_on-le net q j most c all = greatest_of-le (ahead net q c) most 0 0 (j + 2) (omega arith) all

module _ (n : ℕ) where
  first : (k : ℕ) → ahead (around (skiphead Byte n)) (1 ∷ 1 ∷ 1 ∷ []) (link 0 1) k ≤ 65536
  first zero = omega arith
  first (suc k) = omega arith

  second : (k : ℕ) → ahead (around (skiphead Byte n)) (1 ∷ 1 ∷ 1 ∷ []) (link 1 2) k ≤ 65536
  second zero = omega arith
  second (suc k) = omega arith

  fits_skip : (j : ℕ) → fits_limit (around (skiphead Byte n)) (1 ∷ 1 ∷ 1 ∷ []) (Some j) ≡ true
  fits_skip j =
      and_from _ _ (le-leb _ _ (needed_on-le (around (skiphead Byte n)) (1 ∷ 1 ∷ 1 ∷ []) j 65536 (link 0 1) first))
      (and_from _ _ (le-leb _ _ (needed_on-le (around (skiphead Byte n)) (1 ∷ 1 ∷ 1 ∷ []) j 65536 (link 1 2) second)) refl)

-- where the limit is past all skips, it does not matter which iteration is the first that is
pub fits_limit-past : (net : Network) (q : List ℕ) → is_past_skips net q count_limit ≡ true → ((j : ℕ) → fits_limit net q (Some j) ≡ true) → fits_limit net q (past_skips net q) ≡ true
fits_limit-past net q past all =
    subst (λ (b : Bool). fits_limit net q (elim b [ true ↦ Some (greatest (λ n. not (is_past_skips net q (n - 1))) count_limit) | false ↦ None ]) ≡ true) (sym past)
    (all (greatest (λ n. not (is_past_skips net q (n - 1))) count_limit))

pub balances_skip : (n : ℕ) → n ≤ 65536 → balance_of (around (skiphead Byte n)) ≡ Balanced (1 ∷ 1 ∷ 1 ∷ [])
balances_skip n few =
    let past : is_past_skips (around (skiphead Byte n)) (1 ∷ 1 ∷ 1 ∷ []) count_limit ≡ true = and_from (nat_le n 65536) true (le-leb _ _ few) refl in
    subst (λ (b : Bool). elim b [ false ↦ TooLarge | true ↦ Balanced (1 ∷ 1 ∷ 1 ∷ []) ] ≡ Balanced (1 ∷ 1 ∷ 1 ∷ []))
    (sym (fits_limit-past (around (skiphead Byte n)) (1 ∷ 1 ∷ 1 ∷ []) past (fits_skip n))) refl
