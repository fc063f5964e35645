-- Places of lists to which an element is added at the end, and what remains of a list that is taken from its front.
use Rattle.std.proofs.Common.{◌≡◌, ◌<◌, ◌+◌, ◌++◌, ◌∷◌, [], ℕ, List, length, get_or, sym, subst, below_more}
use Rattle.std.proofs.Math.ListN.{get_or-append}
use Rattle.std.proofs.Math.Seq.{get_or-append_seam}

-- what holds of the m places of a list holds with one more element at its end
pub one_more : {X : Type 0} (Q : ℕ → X → Type 0) (xs : List X) (x d : X) (m : ℕ) → length xs ≡ m → ((n : ℕ) → n < m → Q n (get_or xs n d)) → Q m x →
    (n : ℕ) → n < m + 1 → Q n (get_or (xs ++ x ∷ []) n d)
one_more Q xs x d m long low here = below_more (λ n. Q n (get_or (xs ++ x ∷ []) n d)) m
    (λ n less. subst (Q n) (sym (get_or-append xs (x ∷ []) d n (subst (λ k. n < k) (sym long) less))) (low n less))
    (subst (λ k. Q m (get_or (xs ++ x ∷ []) k d)) long (subst (Q m) (sym (get_or-append_seam xs x [] d)) here))

-- and so of the places of two lists
pub both_more : {X Y : Type 0} (Q : ℕ → X → Y → Type 0) (xs : List X) (ys : List Y) (x : X) (y : Y) (d : X) (e : Y) (m : ℕ) → length xs ≡ m → length ys ≡ m →
    ((n : ℕ) → n < m → Q n (get_or xs n d) (get_or ys n e)) → Q m x y → (n : ℕ) → n < m + 1 → Q n (get_or (xs ++ x ∷ []) n d) (get_or (ys ++ y ∷ []) n e)
both_more Q xs ys x y d e m longx longy low here = one_more (λ n a. Q n a (get_or (ys ++ y ∷ []) n e)) xs x d m longx
    (λ n less. subst (Q n (get_or xs n d)) (sym (get_or-append ys (y ∷ []) e n (subst (λ k. n < k) (sym longy) less))) (low n less))
    (subst (λ k. Q m x (get_or (ys ++ y ∷ []) k e)) longy (subst (Q m x) (sym (get_or-append_seam ys y [] e)) here))
