-- The first place at which a test passes.
use Rattle.std.proofs.Common.{◌≡◌, ℕ, ◌+◌, ◌<◌, Bool, false, take, get_or, List, [], ◌∷◌, map, length, refl, ap, ◌∙◌}
use Rattle.std.specs.Prelude.{cond, nat_lt, not, ◌||◌, Option, Some, None, option_map, position}
use Rattle.std.specs.List.{position_or_len, list_any}
use Rattle.std.proofs.lemmas.List.{length-map}
use Rattle.std.proofs.lemmas.List.Folds.{list_any_more}

module _ {A B : Type 0} (f : A → B) (test : B → Bool) where
  position_or_len-map : (xs : List A) → position_or_len test (map f xs) ≡ position_or_len (λ x. test (f x)) xs
  position_or_len-map [] = refl
  position_or_len-map (x ∷ xs) = let rest = position_or_len-map xs in ap (λ n. cond (not (test (f x))) (1 + n) 0) rest

  pub position-map : (xs : List A) → position test (map f xs) ≡ position (λ x. test (f x)) xs
  position-map xs =
      ap (λ n. cond (nat_lt n (length (map f xs))) (Some n) None) (position_or_len-map xs)
      ∙ ap (λ l. cond (nat_lt (position_or_len (λ x. test (f x)) xs) l) (Some (position_or_len (λ x. test (f x)) xs)) None) (length-map xs f)

pub list_any-map : {A B : Type 0} (f : A → B) (test : B → Bool) (xs : List A) → list_any test (map f xs) ≡ list_any (λ x. test (f x)) xs
list_any-map f test [] = refl
list_any-map f test (x ∷ xs) = ap (λ b. test (f x) || b) (list_any-map f test xs)

-- no element passes a test, up to one more
pub none_more : {X : Type 0} (test : X → Bool) (xs : List X) (i : ℕ) (d : X) → i < length xs → list_any test (take i xs) ≡ false → test (get_or xs i d) ≡ false → list_any test (take (i + 1) xs) ≡ false
none_more test xs i d low none fails =
    list_any_more test xs i d low ∙ ap (λ b. b || test (get_or xs i d)) none ∙ fails

-- what a value of an option would have given is not there
pub none_of : {X Y : Type 0} (f : X → Y) (o : Option X) (r : Option Y) → r ≡ option_map f o → ((y : Y) → r ≡ Some y → ⊥) → o ≡ None
none_of f None r e none = refl
none_of f (Some x) r e none = absurd (none (f x) e)

-- what is there came of a value that is there
pub some_of : {X Y : Type 0} (f : Option X → Y) (o : Option X) (r : Option Y) (y : Y) → r ≡ option_map (λ x. f (Some x)) o → r ≡ Some y → y ≡ f o
some_of f None r y e is = absurd (let no = e in let there = is in cc)
some_of f (Some x) r y e is = let came = e in let there = is in cc
