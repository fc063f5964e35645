-- Lemmas on what a block is given and on sums as they grow: windows, the past of an item, residues.
use Rattle.std.specs.Prelude.{ℕ, suc, ◌+◌, ◌-◌, ◌*◌, ◌%◌, ◌<◌, ◌≤◌, ◌≡◌, ℤ, pos, negsuc, ◌+ℤ◌, List, [], ◌∷◌, ◌++◌, length, take, drop, replicate, Bool, true, false, if◌then◌else◌, nat_le, refl}
use Rattle.std.proofs.Common.{ap, ap₂, sym, ◌∙◌, arith, get_or, length-append, length-take, length-drop}
use Rattle.std.proofs.lemmas.Bool.Decides.{nat_tests}
use Rattle.std.proofs.lemmas.Int.{ints, int_rem_euclid_is}
use Rattle.std.proofs.lemmas.List.{get_or-take, get_or-drop, get_or_append_left, get_or-append_right, get_or-replicate, length-replicate}
use Rattle.std.proofs.Math.Nat.{mod-add-mod}
use Rattle.std.specs.Int.{int_rem_euclid}
use Rattle.stream_model.specs.Numbers.{residue, total}
use Rattle.stream_model.specs.Lists.{item, item_before, window}

-- a list behind zeros
zeros_before : (xs : List ℤ) (past n : ℕ) → get_or (replicate past (pos 0) ++ xs) n (pos 0) ≡ item_before xs n past
zeros_before xs past n = choose (nat_le past n) refl
  where
    choose : (b : Bool) → nat_le past n ≡ b → get_or (replicate past (pos 0) ++ xs) n (pos 0)
        ≡ (if b then item xs (n - past) else pos 0)
    choose true e = get_or-append_right (replicate past (pos 0)) xs past n (pos 0) (length-replicate past (pos 0))
        (grind (arith, nat_tests))
    choose false e =
        get_or_append_left (replicate past (pos 0)) xs (pos 0) n (rw length-replicate (grind (arith, nat_tests)))
        ∙ get_or-replicate past n (pos 0) (pos 0) (grind (arith, nat_tests))

-- item n of a window, whose item `past` is item `from` of the list
pub item-window : (xs : List ℤ) (past from to n : ℕ) → n < past + to - from → item (window xs past from to) n
    ≡ item_before xs (from + n) past
item-window xs past from to n h =
    get_or-take (past + to - from) (drop from (replicate past (pos 0) ++ xs)) n (pos 0) h
    ∙ get_or-drop from (replicate past (pos 0) ++ xs) n (pos 0)
    ∙ zeros_before xs past (from + n)

-- how many items a window has
pub length-window : (xs : List ℤ) (past from to : ℕ) → from ≤ to → to ≤ length xs → length (window xs past from to)
    ≡ past + to - from
length-window xs past from to order there =
    omega (
      arith,
      length-take (past + to - from) (drop from (replicate past (pos 0) ++ xs)),
      length-drop from
          (replicate past (pos 0) ++ xs),
      length-append (replicate past (pos 0)) xs,
      length-replicate past (pos 0),
    )

-- the same place of the past, counted from two items
before-shift : (xs : List ℤ) (a b p q : ℕ) → a + q ≡ b + p → item_before xs a p ≡ item_before xs b q
before-shift xs a b p q e = ap₂ (λ c z. if c then item xs z else pos 0) (same_test (nat_le p a) (nat_le q b) refl refl)
    (omega (arith, e))
  where
    same_test : (c d : Bool) → nat_le p a ≡ c → nat_le q b ≡ d → c ≡ d
    same_test true true f g = refl
    same_test false false f g = refl
    same_test true false f g = absurd (grind (arith, nat_tests))
    same_test false true f g = absurd (grind (arith, nat_tests))

-- the item j before item from + n stands j before it in a window too
pub past-window :
    (xs : List ℤ) (past from to n j : ℕ) → j ≤ past → from + n < to → item (window xs past from to) (past + n - j)
    ≡ item_before xs (from + n) j
past-window xs past from to n j close within =
    item-window xs past from to (past + n - j) (omega arith) ∙ before-shift xs (from + (past + n - j)) (from + n) past j
    (omega arith)

-- a whole multiple of the modulus makes any number a natural one
lift : (z : ℤ) (m : ℕ) → 0 < m → (k : ℕ) × (n : ℕ) × (z +ℤ pos (k * m) ≡ pos n)
lift (pos x) m h = (0, x, omega (arith, ints))
lift (negsuc x) m h = (suc x, suc x * m - suc x, lifted (enough x m h))
  where
    enough : (y d : ℕ) → 0 < d → suc y ≤ suc y * d
    enough y d some = grind arith

    lifted : suc x ≤ suc x * m → negsuc x +ℤ pos (suc x * m) ≡ pos (suc x * m - suc x)
    lifted le = omega (arith, ints)

-- a residue is that of any number that a whole multiple of the modulus away
pub residue-lifted : (z : ℤ) (m k n : ℕ) → 0 < m → z +ℤ pos (k * m) ≡ pos n → residue z m ≡ n % m
residue-lifted z m k n h e = let same : pos (residue z m) ≡ pos (n % m) = sym (rem z) ∙ int_rem_euclid_is z (pos m) m k
    n h refl e in cc
  where
    rem : (y : ℤ) → int_rem_euclid y (pos m) ≡ pos (residue y m)
    rem (pos a) = refl
    rem (negsuc a) = refl

-- a sum may be reduced as it grows
pub residue-add : (a b : ℤ) (m : ℕ) → 0 < m → residue (pos (residue a m) +ℤ b) m ≡ residue (a +ℤ b) m
residue-add a b m h = reduced (lift a m h) (lift b m h)
  where
    reduced : (k : ℕ) × (n : ℕ) × (a +ℤ pos (k * m) ≡ pos n) → (l : ℕ) × (o : ℕ) × (b +ℤ pos (l * m) ≡ pos o)
        → residue (pos (residue a m) +ℤ b) m ≡ residue (a +ℤ b) m
    reduced u v =
        ap (λ r. residue (pos r +ℤ b) m) (residue-lifted a m u.0 u.1 h u.2)
        ∙ residue-lifted (pos (u.1 % m) +ℤ b) m v.0 (u.1 % m + v.1) h (omega (arith, ints, v.2))
        ∙ mod-add-mod u.1 m v.1
        ∙ sym (residue-lifted (a +ℤ b) m (u.0 + v.0) (u.1 + v.1) h (omega (arith, ints, u.2, v.2)))

-- the sum of a list with one more at its end
pub total-push : (xs : List ℤ) (z : ℤ) → total (xs ++ z ∷ []) ≡ total xs +ℤ z
total-push [] z = omega (arith, ints)
total-push (x ∷ xs) z = omega (arith, ints, total-push xs z)
