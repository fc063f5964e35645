-- Fields and parts of bytes, by the places of the bytes that separate them.
use Rattle.std.proofs.Common.{◌≡◌, ◌≢◌, ℕ, zero, suc, ◌+◌, ◌-◌, ◌<◌, ◌≤◌, List, [], ◌∷◌, ◌++◌, length, get_or, take, drop, slice_range, true, cond, refl, ap, sym, inl, inr, ◌∙◌, arith, append-nil}
use Rattle.std.specs.Prelude.{Some, None, filter}
use Rattle.std.proofs.lemmas.Bool.{ne_eqb, eq-eqb, cases_lt}
use Rattle.std.proofs.lemmas.List.{get_or-take, get_or-drop, length-take, length-drop, drop_all}
use Rattle.std.proofs.lemmas.List.Folds.{drop_split}
use Rattle.script_text.specs.Fields.{parts_of, fields_of, is_filled, cut_at}

-- no byte is c
abbrev pub Without : ℕ → List ℕ → Type 0
Without c bytes = (k : ℕ) → k < length bytes → get_or bytes k 0 ≢ c

pub cut_found : (c : ℕ) (bytes : List ℕ) (i : ℕ) → i < length bytes → ((k : ℕ) → k < i → get_or bytes k 0 ≢ c) → get_or bytes i 0 ≡ c
    → cut_at c bytes ≡ Some (take i bytes, drop (suc i) bytes)
cut_found c [] i lt none here = absurd (omega arith)
cut_found c (b ∷ bs) zero lt none here = let same = eq-eqb b c here in rw same refl
cut_found c (b ∷ bs) (suc i) lt none here =
    let other = ne_eqb b c (none 0 (omega arith)) in
    let later = cut_found c bs i (omega arith) (λ k low. none (suc k) (omega arith)) here in
    rw (other, later) refl

pub cut_none : (c : ℕ) (bytes : List ℕ) → Without c bytes → cut_at c bytes ≡ None
cut_none c [] none = refl
cut_none c (b ∷ bs) none =
    let other = ne_eqb b c (none 0 (omega arith)) in
    let later = cut_none c bs (λ k low. none (suc k) (omega arith)) in
    rw (other, later) refl

-- spaces in front make no field
pub spaces_skipped : (bytes : List ℕ) (n : ℕ) → n ≤ length bytes → ((k : ℕ) → k < n → get_or bytes k 0 ≡ 32) → fields_of bytes ≡ fields_of (drop n bytes)
spaces_skipped bytes zero within spaces = refl
spaces_skipped [] (suc n) within spaces = absurd (omega arith)
spaces_skipped (b ∷ bs) (suc n) within spaces =
    let same = eq-eqb b 32 (spaces 0 (omega arith)) in
    let later = spaces_skipped bs n (omega arith) (λ k low. spaces (suc k) (omega arith)) in
    rw same later

-- a word up to a space, and one up to the end
parts_word : (word rest : List ℕ) → Without 32 word → parts_of (word ++ 32 ∷ rest) ≡ word ∷ parts_of rest
parts_word [] rest none = refl
parts_word (b ∷ bs) rest none =
    let other = ne_eqb b 32 (none 0 (omega arith)) in
    let later = parts_word bs rest (λ k low. none (suc k) (omega arith)) in
    rw (other, later) refl

parts_end : (word : List ℕ) → Without 32 word → parts_of word ≡ word ∷ []
parts_end [] none = refl
parts_end (b ∷ bs) none =
    let other = ne_eqb b 32 (none 0 (omega arith)) in
    let later = parts_end bs (λ k low. none (suc k) (omega arith)) in
    rw (other, later) refl

word_first : (word rest : List ℕ) → Without 32 word → (0 < length rest → get_or rest 0 0 ≡ 32) → (length word ≡ 0 → length rest ≡ 0)
    → fields_of (word ++ rest) ≡ cond (is_filled word) (word ∷ fields_of rest) []
word_first [] [] none begins both = refl
word_first [] (r ∷ rest) none begins both = let no : 1 ≤ 0 = omega (arith, both refl) in absurd (omega arith)
word_first (b ∷ bs) [] none begins both = ap (λ (ws : List ℕ). fields_of ws) (append-nil (b ∷ bs)) ∙ ap (filter is_filled) (parts_end (b ∷ bs) none)
word_first (b ∷ bs) (r ∷ rest) none begins both =
    ap (λ (x : ℕ). fields_of ((b ∷ bs) ++ x ∷ rest)) (begins (omega arith))
    ∙ (ap (filter is_filled) (parts_word (b ∷ bs) rest none)
    ∙ ap (λ (x : ℕ). (b ∷ bs) ∷ fields_of (x ∷ rest)) (sym (begins (omega arith))))

filled : (bytes : List ℕ) → 0 < length bytes → is_filled bytes ≡ true
filled [] some = absurd (omega arith)
filled (b ∷ bs) some = refl

-- only spaces
pub no_field : (xs : List ℕ) → ((k : ℕ) → k < length xs → get_or xs k 0 ≡ 32) → fields_of xs ≡ []
no_field xs spaces = spaces_skipped xs (length xs) (omega arith) spaces ∙ ap fields_of (drop_all (length xs) xs (omega arith))

-- the first field stands from s on up to e, behind spaces
pub field_between : (xs : List ℕ) (s e : ℕ) → s < length xs → s ≤ e → e ≤ length xs → ((k : ℕ) → k < s → get_or xs k 0 ≡ 32) → get_or xs s 0 ≢ 32
    → ((k : ℕ) → s ≤ k → k < e → get_or xs k 0 ≢ 32) → (e < length xs → get_or xs e 0 ≡ 32)
    → fields_of xs ≡ slice_range xs s e ∷ fields_of (drop e xs)
field_between xs s e some low high spaces other none ends =
    let more : s < e = elim (cases_lt s e) [
      | inl lt ↦ lt
      | inr ge ↦ let same : e ≡ s = omega arith in absurd (other (rw (← same) (ends (omega arith))))
    ] in
    let whole : 0 < length (slice_range xs s e) = omega (arith, length-take (e - s) (drop s xs), length-drop s xs) in
    let cut = spaces_skipped xs s (omega arith) spaces
    ∙ (ap fields_of (drop_split xs s e low)
    ∙ word_first (slice_range xs s e) (drop e xs)
    (λ k lt here. let within : k < e - s = omega (arith, length-take (e - s) (drop s xs)) in
    none (s + k) (omega arith) (omega arith) (sym (get_or-take (e - s) (drop s xs) k 0 within ∙ get_or-drop s xs k 0) ∙ here))
    (λ left. get_or-drop e xs 0 0 ∙ at_place xs e (ends (omega (arith, length-drop e xs))))
    (λ empty. absurd (omega arith))) in
    let is = filled (slice_range xs s e) whole in
    rw is at cut
  where
    at_place : (xs : List ℕ) (e : ℕ) → get_or xs e 0 ≡ 32 → get_or xs (e + 0) 0 ≡ 32
    at_place xs e here = let is : e + 0 ≡ e = omega arith in rw is here
