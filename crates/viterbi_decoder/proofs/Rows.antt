-- The paths found with one step more, row by row.
use Rattle.std.proofs.Common.{◌≡◌, ◌≢◌, inl, inr, ℕ, suc, ◌+◌, ◌*◌, ◌/◌, ◌<◌, ◌≤◌, ◌==◌, ℤ, pos, List, [], ◌∷◌, ◌++◌, Bool, true, false, Option, None, Some, length, map, filter, flat_map, set, replicate, int_lt, refl, ap, sym, subst, ◌∙◌, arith}
use Rattle.std.specs.Prelude.{slice_index_or, if◌then◌else◌}
use Rattle.std.specs.Option.{option_map}
use Rattle.std.proofs.lemmas.Bool.{cases_lt}
use Rattle.std.proofs.lemmas.Bool.Decides.{Decides-eqb}
use Rattle.std.proofs.lemmas.List.{append-nil, map-id, get_or-set_other, set-get_or}
use Rattle.std.proofs.lemmas.List.Elements.{All-replicate}
use Rattle.std.proofs.lemmas.List.FromFn.{filter_of_map_range_with_len_more}
use Rattle.std.proofs.lemmas.Nat.{mul-add-lt}
use Rattle.std.proofs.lemmas.Grind.{flat_map-append, get_or-set_at}
use Rattle.stream_model.specs.Lists.{below}
use Rattle.kind_model.specs.Trellis.{Trellis, IsTrellis, states_of, paths_to, metric, cost, cheapest}
use Rattle.viterbi_decoder.specs.Found.{found, found_by, behind, far, row_in, IsSum, AreSums, IsLastRow, AreLastRows, AreHeld, AreRows}
use Rattle.viterbi_decoder.proofs.Cheapest.{joined, joined-none, cheapest-append, cheapest-behind, cheapest-shifted}
use Rattle.viterbi_decoder.proofs.Costs.{apart}
use Rattle.viterbi_decoder.proofs.Compared.{joined-by, no-sum}

-- the cheapest among lists that pass a test, with one number more
pub cheapest-filtered :
    (f : List ℕ → ℤ) (ways : ℕ → List (List ℕ)) (test : ℕ → Bool) (i : ℕ) →
    cheapest f (flat_map ways (filter test (below (i + 1))))
    ≡ (if test i then joined f (cheapest f (flat_map ways (filter test (below i)))) (cheapest f (ways i)) else cheapest
    f (flat_map ways (filter test (below i))))
cheapest-filtered f ways test i =
    ap (λ ns. cheapest f (flat_map ways ns)) parts
    ∙ ap (cheapest f) (flat_map-append ways (filter test (below i)) (if test i then i ∷ [] else []))
    ∙ cheapest-append f (flat_map ways (filter test (below i))) (flat_map ways (if test i then i ∷ [] else []))
    ∙ choose (test i)
  where
    parts : filter test (below (i + 1)) ≡ filter test (below i) ++ (if test i then i ∷ [] else [])
    parts =
        ap (filter test) (sym (map-id (below (i + 1)))) ∙ filter_of_map_range_with_len_more test (λ n. n) 0 i i
        (omega arith)
        ∙ ap (λ ns. filter test ns ++ (if test i then i ∷ [] else [])) (map-id (below i))

    choose :
        (t : Bool) →
        joined f (cheapest f (flat_map ways (filter test (below i)))) (cheapest f
        (flat_map ways (if t then i ∷ [] else [])))
        ≡ (if t then joined f (cheapest f (flat_map ways (filter test (below i)))) (cheapest f (ways i)) else cheapest f
        (flat_map ways (filter test (below i))))
    choose true = ap (λ ps. joined f (cheapest f (flat_map ways (filter test (below i)))) (cheapest f ps))
        (append-nil (ways i))
    choose false = joined-none f (cheapest f (flat_map ways (filter test (below i))))

pub cheapest-ways : (m : Trellis) (x : List ℤ) (k r : ℕ) → cheapest (cost m x 0 (suc k))
    (map (λ path. r ∷ path) (paths_to m k (r / m.symbols))) ≡ behind m x k r
cheapest-ways m x k r =
    cheapest-behind (cost m x 0 (suc k)) r (paths_to m k (r / m.symbols))
    ∙ ap (option_map (λ path. r ∷ path)) (cheapest-shifted (cost m x 0 k) (metric m x 0 k r)
    (paths_to m k (r / m.symbols)))

found_by-more :
    (m : Trellis) (x : List ℤ) (k i s : ℕ) →
    found_by m x k (i + 1) s
    ≡ (if slice_index_or m.next i 0 == s then joined (cost m x 0 (suc k)) (found_by m x k i s)
    (behind m x k i) else found_by m x k i s)
found_by-more m x k i s =
    cheapest-filtered (cost m x 0 (suc k)) (λ r. map (λ path. r ∷ path) (paths_to m k (r / m.symbols)))
    (λ r. slice_index_or m.next r 0 == s) i
    ∙ ap (λ o. if slice_index_or m.next i 0 == s then joined (cost m x 0 (suc k)) (found_by m x k i s) o else found_by m
    x k i s) (cheapest-ways m x k i)

pub last-behind : (r : ℕ) (o : Option (List ℕ)) (p : List ℕ) → option_map (λ path. r ∷ path) o ≡ Some p
    → (rest : List ℕ) × (p ≡ r ∷ rest) × (o ≡ Some rest)
last-behind r None p e = apart p e
last-behind r (Some q) p e = (q, same q p e, refl)
  where
    same : (q p : List ℕ) → Some (r ∷ q) ≡ Some p → p ≡ r ∷ q
    same q p e = cc

module _ (m : Trellis) (x : List ℤ) (k i to : ℕ) (after : List ℤ) (rows : List ℕ) (sum : ℤ) (to_is : slice_index_or m.next i 0 ≡ to) (sum_is : IsSum m x (suc k) (behind m x k i) sum) (held : AreHeld m x k i after rows) (few : suc k ≤ 1024) where
  by_test :
      (s : ℕ) → s < states_of m → (t : Bool) → (slice_index_or m.next i 0 == s) ≡ t →
      found_by m x k (i + 1) s ≡ (if t then (if int_lt sum (slice_index_or after s (pos 0)) then behind m x k
      i else found_by m x k i s) else found_by m x k i s)
  by_test s h t e =
      let cheaper = joined-by m x (suc k) (found_by m x k i s) (behind m x k i) (slice_index_or after s (pos 0)) sum few
      (held.sums_are s h) sum_is in
      found_by-more m x k i s ∙ (λ j. if e j then cheaper j else found_by m x k i s)

  compared :
      (t : Bool) → int_lt sum (slice_index_or after to (pos 0)) ≡ t → (s : ℕ) → to ≡ s
      → int_lt sum (slice_index_or after s (pos 0)) ≡ t
  compared t e s here = ap (λ n. int_lt sum (slice_index_or after n (pos 0))) (sym here) ∙ e

  by_state :
      (t : Bool) → int_lt sum (slice_index_or after to (pos 0)) ≡ t → (s : ℕ) → s < states_of m → to ≡ s →
      found_by m x k (i + 1) s ≡ (if t then behind m x k i else found_by m x k i s)
  by_state t e s h here =
      by_test s h true ((Decides-eqb (slice_index_or m.next i 0) s).1 (to_is ∙ here))
      ∙ (λ j. if compared t e s here j then behind m x k i else found_by m x k i s)

  same_state : (s : ℕ) → (slice_index_or m.next i 0 == s) ≡ true → to ≡ s
  same_state s d = sym to_is ∙ (Decides-eqb (slice_index_or m.next i 0) s).0 d

  other_state : (s : ℕ) → (slice_index_or m.next i 0 == s) ≡ false → s ≢ to
  other_state s d h = both d ((Decides-eqb (slice_index_or m.next i 0) s).1 (to_is ∙ sym h))
    where
      both : {b : Bool} → b ≡ false → b ≡ true → ⊥
      both e d = cc

  -- a row whose path costs no less than the one before it
  pub held-left : int_lt sum (slice_index_or after to (pos 0)) ≡ false → AreHeld m x k (i + 1) after rows
  held-left e =
      record {
        sums_are = λ s h. subst (λ o. IsSum m x (suc k) o (slice_index_or after s (pos 0)))
            (sym (stays s h (slice_index_or m.next i 0 == s) refl)) (held.sums_are s h);
        rows_are = λ s h. subst (λ o. IsLastRow m x k o (slice_index_or rows (k * states_of m + s) 0))
            (sym (stays s h (slice_index_or m.next i 0 == s) refl)) (held.rows_are s h);
      }
    where
      stays : (s : ℕ) → s < states_of m → (t : Bool) → (slice_index_or m.next i 0 == s) ≡ t → found_by m x k (i + 1) s
          ≡ found_by m x k i s
      stays s h false d = by_test s h false d
      stays s h true d = by_state false e s h (same_state s d)

  -- a row whose path costs less
  pub held-taken :
      int_lt sum (slice_index_or after to (pos 0)) ≡ true → to < length after → k * states_of m + to < length rows →
      AreHeld m x k (i + 1) (set after to sum) (set rows (k * states_of m + to) i)
  held-taken e long room =
      record {
        sums_are = λ s h. new_sum s h (slice_index_or m.next i 0 == s) refl;
        rows_are = λ s h. new_row s h (slice_index_or m.next i 0 == s) refl;
      }
    where
      moved_sum :
          (s : ℕ) (o : Option (List ℕ)) (v : ℤ) → found_by m x k (i + 1) s ≡ o
          → slice_index_or (set after to sum) s (pos 0) ≡ v → IsSum m x (suc k) o v →
          IsSum m x (suc k) (found_by m x k (i + 1) s) (slice_index_or (set after to sum) s (pos 0))
      moved_sum s o v found_is v_is is =
          subst (λ p. IsSum m x (suc k) p (slice_index_or (set after to sum) s (pos 0))) (sym found_is)
          (subst (λ w. IsSum m x (suc k) o w) (sym v_is) is)

      new_sum :
          (s : ℕ) → s < states_of m → (t : Bool) → (slice_index_or m.next i 0 == s) ≡ t →
          IsSum m x (suc k) (found_by m x k (i + 1) s) (slice_index_or (set after to sum) s (pos 0))
      new_sum s h false d =
          moved_sum s (found_by m x k i s) (slice_index_or after s (pos 0)) (by_test s h false d)
          (get_or-set_other after to s sum (pos 0) (other_state s d)) (held.sums_are s h)
      new_sum s h true d =
          moved_sum s (behind m x k i) sum (by_state true e s h (same_state s d))
          (get_or-set_at after to s sum (pos 0) (sym (same_state s d)) long) sum_is

      moved_row :
          (s : ℕ) (o : Option (List ℕ)) (r : ℕ) → found_by m x k (i + 1) s ≡ o
          → slice_index_or (set rows (k * states_of m + to) i) (k * states_of m + s) 0 ≡ r → IsLastRow m x k o r →
          IsLastRow m x k (found_by m x k (i + 1) s) (slice_index_or (set rows (k * states_of m + to) i)
          (k * states_of m + s) 0)
      moved_row s o r found_is r_is is =
          subst (λ p. IsLastRow m x k p (slice_index_or (set rows (k * states_of m + to) i) (k * states_of m + s) 0))
          (sym found_is) (subst (λ w. IsLastRow m x k o w) (sym r_is) is)

      new_row :
          (s : ℕ) → s < states_of m → (t : Bool) → (slice_index_or m.next i 0 == s) ≡ t →
          IsLastRow m x k (found_by m x k (i + 1) s) (slice_index_or (set rows (k * states_of m + to) i)
          (k * states_of m + s) 0)
      new_row s h false d =
          moved_row s (found_by m x k i s) (slice_index_or rows (k * states_of m + s) 0) (by_test s h false d)
          (get_or-set_other rows (k * states_of m + to) (k * states_of m + s) i 0
          (λ same. other_state s d (omega (arith, same)))) (held.rows_are s h)
      new_row s h true d =
          let here = same_state s d in
          moved_row s (behind m x k i) i (by_state true e s h here) (get_or-set_at rows (k * states_of m + to)
          (k * states_of m + s) i 0 (omega (arith, here)) room)
          (record { is = λ p same. last-behind i (found m x k (i / m.symbols)) p same })

  -- in either case
  pub held-more :
      to < length after → k * states_of m + to < length rows →
      AreHeld m x k (i + 1) (set after to (if int_lt sum (slice_index_or after to (pos 0)) then sum else slice_index_or
      after to (pos 0)))
      (set rows (k * states_of m + to) (if int_lt sum (slice_index_or after to (pos 0)) then i else slice_index_or rows
      (k * states_of m + to) 0))
  held-more long room = choose (int_lt sum (slice_index_or after to (pos 0))) refl
    where
      choose :
          (t : Bool) → int_lt sum (slice_index_or after to (pos 0)) ≡ t →
          AreHeld m x k (i + 1) (set after to (if t then sum else slice_index_or after to (pos 0)))
          (set rows (k * states_of m + to) (if t then i else slice_index_or rows (k * states_of m + to) 0))
      choose true e = held-taken e long room
      choose false e =
          subst (λ ys. AreHeld m x k (i + 1) ys (set rows (k * states_of m + to)
          (slice_index_or rows (k * states_of m + to) 0))) (sym (set-get_or after to (pos 0)))
          (subst (λ rs. AreHeld m x k (i + 1) after rs) (sym (set-get_or rows (k * states_of m + to) 0)) (held-left e))

-- before the first row
pub none-held :
    (m : Trellis) (x : List ℤ) (k : ℕ) (after : List ℤ) (rows : List ℕ)
    → ((s : ℕ) → s < states_of m → slice_index_or after s (pos 0) ≡ far) → AreHeld m x k 0 after rows
none-held m x k after rows none =
    record {
      sums_are = λ s h. no-sum m x (suc k) (slice_index_or after s (pos 0)) (none s h);
      rows_are = λ s h.
          record { is = λ p e. apart p e };
    }

pub no-last-rows : (m : Trellis) (x : List ℤ) (row : ℕ → ℕ → ℕ) → AreLastRows m x 0 row
no-last-rows m x row = record { each = λ j s h l. absurd (omega (arith, h)) }

-- after the last row they are those of one step more
pub held-rows :
    (m : Trellis) (x : List ℤ) (k i : ℕ) (sums : List ℤ) (rows old : List ℕ) → i ≡ length m.next
    → AreHeld m x k i sums rows →
    ((i : ℕ) → i < k * states_of m → slice_index_or rows i 0 ≡ slice_index_or old i 0)
    → AreLastRows m x k (row_in m old) → AreLastRows m x (suc k) (row_in m rows)
held-rows m x k i sums rows old all held stays before = record { each = each }
  where
    each : (j s : ℕ) → j < suc k → s < states_of m → IsLastRow m x j (found m x (suc j) s)
        (slice_index_or rows (j * states_of m + s) 0)
    each j s h l =
        elim (cases_lt j k) [
          | inl sooner ↦
              let place = mul-add-lt j (states_of m) s k sooner l in
              subst (λ r. IsLastRow m x j (found m x (suc j) s) r) (sym (stays (j * states_of m + s)
              (omega (arith, place)))) (before.each j s sooner l)
          | inr now ↦
              let here : k ≡ j = omega (arith, now, h) in
              subst (λ n. IsLastRow m x n (found m x (suc n) s) (slice_index_or rows (n * states_of m + s) 0)) here
              (subst (λ n. IsLastRow m x k (found_by m x k n s) (slice_index_or rows (k * states_of m + s) 0)) all
              (held.rows_are s l))
        ]

pub held-sums :
    (m : Trellis) (x : List ℤ) (k i : ℕ) (sums : List ℤ) (rows : List ℕ) → i ≡ length m.next → AreHeld m x k i sums rows
    → AreSums m x (suc k) sums
held-sums m x k i sums rows all held =
    record {
      each = λ s h. subst (λ n. IsSum m x (suc k) (found_by m x k n s) (slice_index_or sums s (pos 0))) all
          (held.sums_are s h);
    }

-- sums of the same states
pub same-sums :
    (m : Trellis) (x : List ℤ) (k : ℕ) (sums same : List ℤ) → ((s : ℕ) → s < states_of m → slice_index_or same s (pos 0)
    ≡ slice_index_or sums s (pos 0)) →
    AreSums m x k sums → AreSums m x k same
same-sums m x k sums same h are = record {
  each = λ s l. subst (λ v. IsSum m x k (found m x k s) v) (sym (h s l))
      (are.each s l);
}

-- the place of a state's last row
pub row-place : (m : Trellis) (k s : ℕ) → k < m.steps → s < states_of m → k * states_of m + s < m.steps * states_of m
row-place m k s less h = omega (arith, mul-add-lt k (states_of m) s m.steps less h)

-- a table of zeros has rows
pub zero-rows : (m : Trellis) (n : ℕ) → IsTrellis m → AreRows m (replicate n 0)
zero-rows m n is = record {
  each = All-replicate (λ r. r < length m.next) n 0
      (some (states_of m) m.symbols (length m.next) is.some_states is.some is.whole);
}
  where
    some : (a b l : ℕ) → 1 ≤ a → 1 ≤ b → a * b ≡ l → 0 < l
    some a b l h k e = grind arith

-- behind the last symbol of a state come the rows of the next
pub row-end : (state symbols symbol : ℕ) → symbol ≡ symbols → state * symbols + symbol ≡ (state + 1) * symbols
row-end state symbols symbol e = grind (arith, e)
