-- Pieces that are written one after another.
use Rattle.std.proofs.Common.{◌≡◌, ℕ, zero, suc, [], ◌∷◌, ◌+◌, ◌≤◌, List, ◌++◌, length, take, drop, refl, ap, arith, append_assoc}
use Rattle.std.specs.Prelude.{Option, Some, None}
use Rattle.std.specs.Io.KnownBytes.{Appends}

-- the first m items, and the n after them
take_both : (m n : ℕ) (xs : List ℕ) → m ≤ length xs → take m xs ++ take n (drop m xs) ≡ take (m + n) xs
take_both zero n xs within = let is : 0 + n ≡ n = omega arith in rw is refl
take_both (suc m) n [] within = absurd (omega arith)
take_both (suc m) n (x ∷ xs) within = let is : suc m + n ≡ suc (m + n) = omega arith in rw is (ap (λ (ys : List ℕ). x ∷ ys) (take_both m n xs (omega arith)))

pub appends_more : (a b c : Option (List ℕ)) (m n : ℕ) (piece : List ℕ) → m ≤ length piece
    → Appends a b (take m piece) → Appends b c (take n (drop m piece)) → Appends a c (take (m + n) piece)
appends_more None b c m n piece within p q = tt
appends_more (Some xs) None c m n piece within p q = absurd p
appends_more (Some xs) (Some ys) None m n piece within p q = absurd q
appends_more (Some xs) (Some ys) (Some zs) m n piece within p q = rw (q, p, append_assoc, take_both m n piece within) refl
