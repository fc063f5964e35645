-- A function of numbers below n comes back to where n turns of it lead.
use Rattle.std.proofs.Common.{◌≡◌, ℕ, zero, suc, ◌+◌, ◌<◌, ◌≤◌, Bool, true, false, List, [], ◌∷◌, length, refl, sym, ap, ◌∙◌, subst, arith, inl, inr, eqb, eqb-true, zero-lt-suc}
use Rattle.std.specs.Prelude.{◌⊎◌}
use Rattle.std.specs.List.{IsDistinct, AllByRecursion, list_any}
use Rattle.std.proofs.lemmas.Bool.{or_cases, or_parts}
use Rattle.std.proofs.lemmas.Map.Steps.{length-le_from_distinct_below}
use Rattle.machine_laws.specs.Waits.{repeated}

none_equal : (q : ℕ) (xs : List ℕ) → list_any (eqb q) xs ≡ false → AllByRecursion (λ y. eqb q y ≡ false) xs
none_equal q [] e = tt
none_equal q (x ∷ xs) e = let parts = or_parts (eqb q x) (list_any (eqb q) xs) e in (parts.0, none_equal q xs parts.1)

module _ (f : ℕ → ℕ) where
  -- turns one after another are as many at once
  repeated_twice : (j k b : ℕ) → repeated f j (repeated f k b) ≡ repeated f (k + j) b
  repeated_twice j zero b = ap (λ i. repeated f i b) (let e : j ≡ 0 + j = omega arith in e)
  repeated_twice j (suc k) b = repeated_twice j k (f b) ∙ ap (λ i. repeated f i b) (let e : suc (k + j) ≡ suc k + j = omega arith in e)

  pub repeated_swap : (j k b : ℕ) → repeated f j (repeated f k b) ≡ repeated f k (repeated f j b)
  repeated_swap j k b = repeated_twice j k b ∙ ap (λ i. repeated f i b) (let e : k + j ≡ j + k = omega arith in e) ∙ sym (repeated_twice k j b)

  -- what each turn keeps
  pub repeated_keeps : (P : ℕ → Type 0) → ((b : ℕ) → P b → P (f b)) → (k b : ℕ) → P b → P (repeated f k b)
  repeated_keeps P keeps zero b h = h
  repeated_keeps P keeps (suc k) b h = repeated_keeps P keeps k (f b) (keeps b h)

  -- the places before so many turns
  abbrev path : ℕ → ℕ → List ℕ
  path zero b = []
  path (suc k) b = b ∷ path k (f b)

  path-length : (k b : ℕ) → length (path k b) ≡ k
  path-length zero b = refl
  path-length (suc k) b = ap suc (path-length k (f b))

  found : (q k b : ℕ) → list_any (eqb q) (path k b) ≡ true → (i : ℕ) × (i < k) × (q ≡ repeated f i b)
  found q zero b e = cc
  found q (suc k) b e =
      elim (or_cases (eqb q b) (list_any (eqb q) (path k (f b))) e) [
        | inl here ↦ (0, zero-lt-suc k, eqb-true q b here)
        | inr later ↦ (let at = found q k (f b) later in let low = at.1 in (suc at.0, omega (arith, low), at.2))
      ]

  -- some turns, at least one, lead back
  pub record ComesBack (most c : ℕ) : Type 0 where
    pub turns : ℕ
    pub some : 0 < turns
    pub few : turns ≤ most
    pub back : repeated f turns c ≡ c

  abbrev BackOrDistinct : ℕ → ℕ → Type 0
  BackOrDistinct k b = IsDistinct eqb (path (suc k) b) ⊎ ComesBack k (repeated f k b)

  one_more : (k b : ℕ) → BackOrDistinct k (f b) → (t : Bool) → list_any (eqb b) (path (suc k) (f b)) ≡ t → BackOrDistinct (suc k) b
  unfolding IsDistinct
  one_more k b later true e =
      let at = found b (suc k) (f b) e in
      let low = at.1 in
      inr (record { turns = suc at.0; some = zero-lt-suc at.0; few = omega (arith, low); back = repeated_swap (suc at.0) (suc k) b ∙ ap (λ i. repeated f (suc k) i) (sym at.2) })
  one_more k b later false e =
      elim later [
        | inl d ↦ inl (none_equal b (path (suc k) (f b)) e, d)
        | inr r ↦ inr (record { turns = r.turns; some = r.some; few = (let few = r.few in omega (arith, few)); back = r.back })
      ]

  back_or_distinct : (k b : ℕ) → BackOrDistinct k b
  unfolding IsDistinct
  back_or_distinct zero b = inl (tt, tt)
  back_or_distinct (suc k) b = one_more k b (back_or_distinct k (f b)) (list_any (eqb b) (path (suc k) (f b))) refl

  pub comes_back : (n b : ℕ) → ((i : ℕ) → repeated f i b < n) → ComesBack n (repeated f n b)
  comes_back n b below =
      elim (back_or_distinct n b) [
        | inl distinct ↦ (let most = length-le_from_distinct_below (path (suc n) b) n distinct (λ q h. let at = found q (suc n) b h in subst (λ x. x < n) (sym at.2) (below at.0)) in
            let count = path-length (suc n) b in
            absurd (omega (arith, most, count)))
        | inr r ↦ r
      ]
