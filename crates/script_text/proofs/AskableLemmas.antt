-- What a line says can be asked.
use Rattle.std.proofs.Common.{◌≡◌, ℕ, ◌≤◌, Bool, true, false, List, [], ◌∷◌, refl, cond, arith, None, Some, codes, length}
use Rattle.std.proofs.lemmas.Bool.Decides.{nat_tests}
use Rattle.std.specs.Prelude.{Option, nat_lt, nat_le, ◌&&◌}
use Rattle.std.specs.Str.{bytes_eq}
use Rattle.std.specs.Option.{option_map}
use Rattle.script_text.specs.Lines.{begins_with, longest_line}
use Rattle.script_text.specs.Fields.{fields_of}
use Rattle.script_text.specs.Numbers.{max_of, offset_of, within, natural_of}
use Rattle.script_text.specs.Grammar.{Command, Close, Claim, Commit, Abandon, Step, Why, Parsed, IsAskable, SaysAskable, ◌>>=◌, parsed_line, parsed_fields, says, command_of, feed_of, set_of, read_of, quiet_of, settle_of, block_of, given_of, name_alone, name_and_max, place_of, integers_of, number_sign}

abbrev Found : Option Command → Type 0
Found None = Unit {0}
Found (Some c) = IsAskable c

bound : {A : Type 0} (o : Option A) (f : A → Option Command) → ((x : A) → o ≡ Some x → Found (f x)) → Found (o >>= f)
bound None f h = tt
bound (Some x) f h = h x refl

mapped : {A : Type 0} (o : Option A) (f : A → Command) → ((x : A) → o ≡ Some x → IsAskable (f x)) → Found (option_map f o)
mapped None f h = tt
mapped (Some x) f h = h x refl

chosen : (b : Bool) (x y : Option Command) → Found x → Found y → Found (cond b x y)
chosen true x y p q = p
chosen false x y p q = q

says_chosen : (b : Bool) (x y : Parsed) → SaysAskable x → SaysAskable y → SaysAskable (cond b x y)
says_chosen true x y p q = p
says_chosen false x y p q = q

in_range : (o : Option ℕ) (m : ℕ) → within 1 4294967295 o ≡ Some m → (1 ≤ m) × (m ≤ 4294967295)
in_range None m e = cc
in_range (Some n) m e = by_test (nat_le 1 n) (nat_le n 4294967295) refl refl e
  where
    by_test : (x y : Bool) → nat_le 1 n ≡ x → nat_le n 4294967295 ≡ y → cond (x && y) (Some n) None ≡ Some m → (1 ≤ m) × (m ≤ 4294967295)
    by_test true true p q r = let is : n ≡ m = cc in (grind (arith, nat_tests), grind (arith, nat_tests))
    by_test true false p q r = cc
    by_test false true p q r = cc
    by_test false false p q r = cc

pair_in_range : (fs : List (List ℕ)) (pair : List ℕ × ℕ) → name_and_max fs ≡ Some pair → (1 ≤ pair.1) × (pair.1 ≤ 4294967295)
pair_in_range [] pair e = cc
pair_in_range (name ∷ []) pair e = cc
pair_in_range (name ∷ max ∷ []) pair e = by_name (block_of name) e
  where
    by_max : (b : List ℕ) (o : Option ℕ) → max_of max ≡ o → (o >>= (λ n. Some (b, n))) ≡ Some pair → (1 ≤ pair.1) × (pair.1 ≤ 4294967295)
    by_max b None i e = cc
    by_max b (Some n) i e = let is : n ≡ pair.1 = cc in rw (← is) (in_range (natural_of max) n i)

    by_name : (o : Option (List ℕ)) → (o >>= (λ b. max_of max >>= (λ n. Some (b, n)))) ≡ Some pair → (1 ≤ pair.1) × (pair.1 ≤ 4294967295)
    by_name None e = cc
    by_name (Some b) e = by_max b (max_of max) refl e
pair_in_range (name ∷ max ∷ other ∷ fs) pair e = cc

found_feed : (fs : List (List ℕ)) → Found (feed_of fs)
found_feed [] = tt
found_feed (name ∷ fs) = bound (block_of name) _ (λ b e. bound (given_of fs) _ (λ given i. tt))

found_set : (fs : List (List ℕ)) → Found (set_of fs)
found_set [] = tt
found_set (name ∷ []) = tt
found_set (name ∷ place ∷ []) = tt
found_set (name ∷ place ∷ number ∷ fs) = bound (block_of name) _ (λ b e. bound (place_of place) _ (λ at i. bound (integers_of (number ∷ fs)) _ (λ xs j. tt)))

found_read : (fs : List (List ℕ)) → Found (read_of fs)
found_read [] = tt
found_read (name ∷ []) = tt
found_read (name ∷ from ∷ []) = tt
found_read (name ∷ from ∷ max ∷ []) = bound (block_of name) _ (λ b e. bound (offset_of from) _ (λ n i. bound (max_of max) _ (λ m j. tt)))
found_read (name ∷ from ∷ max ∷ other ∷ fs) = tt

found_quiet : (fs : List (List ℕ)) → Found (quiet_of fs)
found_quiet [] = tt
found_quiet (other ∷ fs) = tt

found_settle : (fs : List (List ℕ)) → Found (settle_of fs)
found_settle [] = tt
found_settle (other ∷ fs) = tt

found_command : (word : List ℕ) (fs : List (List ℕ)) → Found (command_of word fs)
found_command word fs =
    chosen (bytes_eq word (codes "feed")) _ _ (found_feed fs)
    (chosen (bytes_eq word (codes "close")) _ _ (mapped (name_alone fs) Close (λ b e. tt))
    (chosen (bytes_eq word (codes "set")) _ _ (found_set fs)
    (chosen (bytes_eq word (codes "claim")) _ _ (mapped (name_and_max fs) (λ pair. Claim pair.0 pair.1) (pair_in_range fs))
    (chosen (bytes_eq word (codes "commit")) _ _ (mapped (name_alone fs) Commit (λ b e. tt))
    (chosen (bytes_eq word (codes "abandon")) _ _ (mapped (name_alone fs) Abandon (λ b e. tt))
    (chosen (bytes_eq word (codes "step")) _ _ (mapped (name_and_max fs) (λ pair. Step pair.0 pair.1) (pair_in_range fs))
    (chosen (bytes_eq word (codes "read")) _ _ (found_read fs)
    (chosen (bytes_eq word (codes "why")) _ _ (mapped (name_alone fs) Why (λ b e. tt))
    (chosen (bytes_eq word (codes "quiet")) _ _ (found_quiet fs)
    (chosen (bytes_eq word (codes "settle")) _ _ (found_settle fs) tt))))))))))

says_found : (o : Option Command) → Found o → SaysAskable (says o)
says_found None h = tt
says_found (Some c) h = h

says_fields : (fs : List (List ℕ)) → SaysAskable (parsed_fields fs)
says_fields [] = tt
says_fields (word ∷ fs) = says_found (command_of word fs) (found_command word fs)

pub says_askable : (line : List ℕ) → SaysAskable (parsed_line line)
unfolding parsed_line
says_askable line =
    says_chosen (nat_lt longest_line (length line)) _ _ tt
    (says_chosen (begins_with number_sign line) _ _ tt (says_fields (fields_of line)))
