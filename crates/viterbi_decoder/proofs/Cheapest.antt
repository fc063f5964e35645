-- The first of the cheapest paths, of lists that are put together.
use Rattle.std.proofs.Common.{◌≡◌, ℕ, ◌+ℤ◌, ℤ, List, [], ◌∷◌, ◌++◌, Bool, true, false, Option, None, Some, map, int_lt, refl, ap, sym, ◌∙◌, arith}
use Rattle.std.specs.Prelude.{if◌then◌else◌}
use Rattle.std.specs.Option.{option_map}
use Rattle.std.proofs.lemmas.Int.{ints}
use Rattle.kind_model.specs.Trellis.{cheaper, cheapest}
use Rattle.viterbi_decoder.specs.Found.{is_less}

-- a path that was found, or one found later that costs less
abbrev pub joined : (List ℕ → ℤ) → Option (List ℕ) → Option (List ℕ) → Option (List ℕ)
joined costs None later = later
joined costs (Some path) later = Some (cheaper costs path later)

int_less : (x y z : ℤ) → int_lt x y ≡ true → int_lt y z ≡ true → int_lt x z ≡ true
int_less x y z h k = grind (arith, ints)

int_not_less : (x y z : ℤ) → int_lt x y ≡ false → int_lt y z ≡ false → int_lt x z ≡ false
int_not_less x y z h k = grind (arith, ints)

int_shifted : (x y z : ℤ) → int_lt (x +ℤ z) (y +ℤ z) ≡ int_lt x y
int_shifted x y z = grind (arith, ints)

-- of three paths, the first of the cheapest
cheaper-joined : (f : List ℕ → ℤ) (p : List ℕ) (b c : Option (List ℕ)) → cheaper f p (joined f b c)
    ≡ cheaper f (cheaper f p b) c
cheaper-joined f p None c = refl
cheaper-joined f p (Some q) None = refl
cheaper-joined f p (Some q) (Some s) = choose (int_lt (f s) (f q)) refl (int_lt (f q) (f p)) refl
  where
    choose :
        (b : Bool) → int_lt (f s) (f q) ≡ b → (c : Bool) → int_lt (f q) (f p) ≡ c →
        cheaper f p (Some (if b then s else q)) ≡ cheaper f (if c then q else p) (Some s)
    choose true e true d = (λ i. if int_less (f s) (f q) (f p) e d i then s else p) ∙ sym (λ i. if e i then s else q)
    choose true e false d = refl
    choose false e true d = (λ i. if d i then q else p) ∙ sym (λ i. if e i then s else q)
    choose false e false d = (λ i. if d i then q else p) ∙ sym (λ i. if int_not_less (f s) (f q) (f p) e d
        i then s else p)

-- the cheapest of two lists is the cheaper of the cheapest of each
pub cheapest-append : (f : List ℕ → ℤ) (xs ys : List (List ℕ)) → cheapest f (xs ++ ys)
    ≡ joined f (cheapest f xs) (cheapest f ys)
cheapest-append f [] ys = refl
cheapest-append f (p ∷ xs) ys = ap (λ o. Some (cheaper f p o)) (cheapest-append f xs ys) ∙ ap Some
    (cheaper-joined f p (cheapest f xs) (cheapest f ys))

cheaper-behind : (f : List ℕ → ℤ) (r : ℕ) (p : List ℕ) (o : Option (List ℕ))
    → cheaper f (r ∷ p) (option_map (λ q. r ∷ q) o) ≡ r ∷ cheaper (λ q. f (r ∷ q)) p o
cheaper-behind f r p None = refl
cheaper-behind f r p (Some q) = choose (int_lt (f (r ∷ q)) (f (r ∷ p)))
  where
    choose : (b : Bool) → (if b then r ∷ q else r ∷ p) ≡ r ∷ (if b then q else p)
    choose true = refl
    choose false = refl

-- a row that is put behind all paths
pub cheapest-behind : (f : List ℕ → ℤ) (r : ℕ) (ps : List (List ℕ)) → cheapest f (map (λ p. r ∷ p) ps)
    ≡ option_map (λ p. r ∷ p) (cheapest (λ p. f (r ∷ p)) ps)
cheapest-behind f r [] = refl
cheapest-behind f r (p ∷ ps) =
    ap (λ o. Some (cheaper f (r ∷ p) o)) (cheapest-behind f r ps) ∙ ap Some
    (cheaper-behind f r p (cheapest (λ q. f (r ∷ q)) ps))

cheaper-shifted : (f : List ℕ → ℤ) (z : ℤ) (p : List ℕ) (o : Option (List ℕ)) → cheaper (λ q. f q +ℤ z) p o
    ≡ cheaper f p o
cheaper-shifted f z p None = refl
cheaper-shifted f z p (Some q) = λ i. if int_shifted (f q) (f p) z i then q else p

-- what all paths cost more changes nothing
pub cheapest-shifted : (f : List ℕ → ℤ) (z : ℤ) (ps : List (List ℕ)) → cheapest (λ p. f p +ℤ z) ps ≡ cheapest f ps
cheapest-shifted f z [] = refl
cheapest-shifted f z (p ∷ ps) = ap (λ o. Some (cheaper (λ q. f q +ℤ z) p o)) (cheapest-shifted f z ps) ∙ ap Some
    (cheaper-shifted f z p (cheapest f ps))

pub joined-none : (f : List ℕ → ℤ) (o : Option (List ℕ)) → joined f o None ≡ o
joined-none f None = refl
joined-none f (Some p) = refl

-- the later path is taken where it costs less
pub joined-picked : (f : List ℕ → ℤ) (a b : Option (List ℕ)) → joined f a b
    ≡ (if is_less (option_map f b) (option_map f a) then b else a)
joined-picked f None None = refl
joined-picked f None (Some q) = refl
joined-picked f (Some p) None = refl
joined-picked f (Some p) (Some q) = choose (int_lt (f q) (f p))
  where
    choose : (t : Bool) → Some (if t then q else p) ≡ (if t then Some q else Some p)
    choose true = refl
    choose false = refl
