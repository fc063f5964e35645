-- How lines come off the front of bytes.
use Rattle.std.proofs.Common.{◌≡◌, ◌≢◌, ℕ, zero, suc, ◌+◌, ◌-◌, ◌<◌, ◌≤◌, List, [], ◌∷◌, ◌++◌, length, get_or, take, drop, slice_range, Bool, true, false, ◌&&◌, cond, refl, ap, sym, subst, inl, inr, ◌∙◌, arith, append_assoc}
use Rattle.std.specs.Prelude.{◌==◌}
use Rattle.std.proofs.lemmas.Bool.{ne_eqb, cases_lt}
use Rattle.std.proofs.lemmas.List.{drop_more, get_or-take, get_or-drop, take-take, length-take, length-take-le, length-drop, take_all}
use Rattle.std.proofs.lemmas.List.Folds.{drop_split}
use Rattle.script_text.specs.Splits.{StartsTooLong}
use Rattle.script_text.specs.Lines.{longest_line, onto_first, lines_of, without_return}

-- no byte is a line feed
abbrev pub NoFeed : List ℕ → Type 0
NoFeed bytes = (k : ℕ) → k < length bytes → get_or bytes k 0 ≢ 10

pub return_end : (bytes : List ℕ) (n : ℕ) → length bytes ≡ suc n → get_or bytes n 0 ≡ 13 → take n bytes ≡ without_return bytes
return_end [] n p e = absurd (omega arith)
return_end (b ∷ []) zero p e = rw e refl
return_end (b ∷ []) (suc n) p e = absurd (omega arith)
return_end (b ∷ c ∷ bs) zero p e = absurd (omega arith)
return_end (b ∷ c ∷ bs) (suc n) p e = ap (λ (xs : List ℕ). b ∷ xs) (return_end (c ∷ bs) n (omega arith) e)

pub other_end : (bytes : List ℕ) (n : ℕ) → length bytes ≡ suc n → get_or bytes n 0 ≢ 13 → bytes ≡ without_return bytes
other_end [] n p e = refl
other_end (b ∷ []) zero p e = let no = ne_eqb b 13 e in rw no refl
other_end (b ∷ []) (suc n) p e = absurd (omega arith)
other_end (b ∷ c ∷ bs) zero p e = absurd (omega arith)
other_end (b ∷ c ∷ bs) (suc n) p e = ap (λ (xs : List ℕ). b ∷ xs) (other_end (c ∷ bs) n (omega arith) e)

-- only a carriage return is left out
pub return_less : (bytes : List ℕ) → length bytes ≤ suc (length (without_return bytes))
return_less [] = omega arith
return_less (b ∷ []) = omega arith
return_less (b ∷ c ∷ bs) = let rest = return_less (c ∷ bs) in omega (arith, rest)

later : (b : ℕ) (bs : List ℕ) → NoFeed (b ∷ bs) → NoFeed bs
later b bs h k lt = h (suc k) (omega arith)

-- a byte before one that is no line feed goes onto the first line
step : (b c : ℕ) (bs : List ℕ) → (b == 10) ≡ false → (c == 10) ≡ false → lines_of (b ∷ c ∷ bs) ≡ onto_first b (lines_of (c ∷ bs))
step b c bs p q = by_tests (b == 10) (b == 13) (c == 10) ([] ∷ lines_of (c ∷ bs)) (lines_of (c ∷ bs)) p q
  where
    by_tests : (x y z : Bool) (none ls : List (List ℕ)) → x ≡ false → z ≡ false → cond x none (cond (y && z) ls (onto_first b ls)) ≡ onto_first b ls
    by_tests x true z none ls p q = rw (p, q) refl
    by_tests x false z none ls p q = rw p refl

pub whole_line : (bytes rest : List ℕ) → NoFeed bytes → lines_of (bytes ++ 10 ∷ rest) ≡ without_return bytes ∷ lines_of rest
whole_line [] rest h = refl
whole_line (b ∷ []) rest h = let no = ne_eqb b 10 (h 0 (omega arith)) in rw no (by_return (b == 13) (lines_of rest))
  where
    by_return : (t : Bool) (ls : List (List ℕ)) → cond (t && true) ([] ∷ ls) ((b ∷ []) ∷ ls) ≡ cond t [] (b ∷ []) ∷ ls
    by_return true ls = refl
    by_return false ls = refl
whole_line (b ∷ c ∷ bs) rest h =
    step b c (bs ++ 10 ∷ rest) (ne_eqb b 10 (h 0 (omega arith))) (ne_eqb c 10 (h 1 (omega arith)))
    ∙ ap (onto_first b) (whole_line (c ∷ bs) rest (later b (c ∷ bs) h))

-- bytes without a line feed are one line
pub one_line : (b : ℕ) (bs : List ℕ) → NoFeed (b ∷ bs) → lines_of (b ∷ bs) ≡ (b ∷ bs) ∷ []
one_line b [] h = let no = ne_eqb b 10 (h 0 (omega arith)) in rw no (by_return (b == 13))
  where
    by_return : (t : Bool) → cond (t && false) [] ((b ∷ []) ∷ []) ≡ (b ∷ []) ∷ []
    by_return true = refl
    by_return false = refl
one_line b (c ∷ bs) h =
    step b c bs (ne_eqb b 10 (h 0 (omega arith))) (ne_eqb c 10 (h 1 (omega arith)))
    ∙ ap (onto_first b) (one_line c bs (later b (c ∷ bs) h))

-- the first line of all is at least as long as n
abbrev pub StartsWithLength : ℕ → List (List ℕ) → Type 0
StartsWithLength n ls = (line : List ℕ) × (lines : List (List ℕ)) × (ls ≡ line ∷ lines) × (n ≤ length line)

onto : (b n : ℕ) (ls : List (List ℕ)) → StartsWithLength n ls → StartsWithLength (suc n) (onto_first b ls)
onto b n ls (line, lines, is, long) = (b ∷ line, lines, ap (onto_first b) is, omega arith)

onto_any : (b : ℕ) (ls : List (List ℕ)) → StartsWithLength 1 (onto_first b ls)
onto_any b [] = (b ∷ [], [], refl, omega arith)
onto_any b (line ∷ lines) = (b ∷ line, lines, refl, omega arith)

weaker : (ls : List (List ℕ)) → StartsWithLength 1 ls → StartsWithLength 0 ls
weaker ls (line, lines, is, long) = (line, lines, is, omega arith)

feed_first : (m : ℕ) (ms : List ℕ) → (m == 10) ≡ true → StartsWithLength 0 (lines_of (m ∷ ms))
feed_first m ms e = ([], lines_of ms, rw e refl, omega arith)

last_step : (t u : Bool) (b : ℕ) (ls : List (List ℕ)) → (u ≡ true → StartsWithLength 0 ls) → StartsWithLength (length (cond t [] (b ∷ []))) (cond (t && u) ls (onto_first b ls))
last_step true true b ls h = h refl
last_step true false b ls h = weaker _ (onto_any b ls)
last_step false u b ls h = onto_any b ls

last_byte : (x : Bool) (b m : ℕ) (ms : List ℕ) → x ≡ false → StartsWithLength (length (without_return (b ∷ []))) (cond x ([] ∷ lines_of (m ∷ ms)) (cond (b == 13 && m == 10) (lines_of (m ∷ ms)) (onto_first b (lines_of (m ∷ ms)))))
last_byte x b m ms other = rw other (last_step (b == 13) (m == 10) b (lines_of (m ∷ ms)) (feed_first m ms))

at_most_one : (t : Bool) (b : ℕ) → length (cond t [] (b ∷ [])) ≤ 1
at_most_one true b = omega arith
at_most_one false b = omega arith

-- bytes without a line feed begin the first line, whatever follows
starts : (b : ℕ) (bs more : List ℕ) → NoFeed (b ∷ bs) → StartsWithLength (length (without_return (b ∷ bs))) (lines_of ((b ∷ bs) ++ more))
starts b [] [] h = (b ∷ [], [], one_line b [] h, at_most_one (b == 13) b)
starts b [] (m ∷ ms) h = last_byte (b == 10) b m ms (ne_eqb b 10 (h 0 (omega arith)))
starts b (c ∷ cs) more h =
    let onto_it : StartsWithLength (length (without_return (b ∷ c ∷ cs))) (onto_first b (lines_of ((c ∷ cs) ++ more))) =
    onto b (length (without_return (c ∷ cs))) (lines_of ((c ∷ cs) ++ more)) (starts c cs more (later b (c ∷ cs) h)) in
    let stepped = step b c (cs ++ more) (ne_eqb b 10 (h 0 (omega arith))) (ne_eqb c 10 (h 1 (omega arith))) in
    (onto_it.0, onto_it.1, stepped ∙ onto_it.2, onto_it.3)

pub too_long : (bytes : List ℕ) → NoFeed bytes → longest_line < length (without_return bytes) → (more : List ℕ) → StartsTooLong (bytes ++ more)
too_long [] h long more = absurd (omega arith)
too_long (b ∷ bs) h long more = let found = starts b bs more h in (found.0, found.1, found.2, omega (arith, found.3))

-- the same at places of a longer list
pub part_none : (xs : List ℕ) (s e : ℕ) → ((k : ℕ) → s ≤ k → k < e → get_or xs k 0 ≢ 10) → NoFeed (slice_range xs s e)
part_none xs s e none k lt here =
    let within : k < e - s = omega (arith, length-take (e - s) (drop s xs)) in
    none (s + k) (omega arith) (omega arith) (sym (get_or-take (e - s) (drop s xs) k 0 within ∙ get_or-drop s xs k 0) ∙ here)

pub line_off_front : (xs : List ℕ) (s e : ℕ) (more : List ℕ) → s ≤ e → e < length xs → ((k : ℕ) → s ≤ k → k < e → get_or xs k 0 ≢ 10) → get_or xs e 0 ≡ 10
    → lines_of (drop s xs ++ more) ≡ without_return (slice_range xs s e) ∷ lines_of (drop (e + 1) xs ++ more)
line_off_front xs s e more low high none found =
    let cut : drop s xs ≡ slice_range xs s e ++ 10 ∷ drop (e + 1) xs =
    drop_split xs s e low ∙ ap (λ (ys : List ℕ). slice_range xs s e ++ ys) (drop_more xs e 0 high ∙ ap (λ (x : ℕ). x ∷ drop (e + 1) xs) found) in
    ap (λ (ys : List ℕ). lines_of (ys ++ more)) cut ∙ ap lines_of (append_assoc (slice_range xs s e) (10 ∷ drop (e + 1) xs) more)
    ∙ whole_line (slice_range xs s e) (drop (e + 1) xs ++ more) (part_none xs s e none)

-- the front of a slice is a slice
pub front_of_slice : (xs : List ℕ) (s e n : ℕ) → n ≤ e - s → slice_range xs s (s + n) ≡ take n (slice_range xs s e)
front_of_slice xs s e n within =
    let is : s + n - s ≡ n = omega arith in rw is (sym (take-take n (e - s) (drop s xs) within))

-- a slice up to the end
pub slice_to_end : (xs : List ℕ) (s e : ℕ) → length xs ≤ e → slice_range xs s e ≡ drop s xs
slice_to_end xs s e past = take_all (e - s) (drop s xs) (omega (arith, length-drop s xs))

-- two stretches without a line feed, one after the other
pub none_between : (xs : List ℕ) (s m e : ℕ) → ((k : ℕ) → s ≤ k → k < m → get_or xs k 0 ≢ 10) → ((k : ℕ) → m ≤ k → k < e → get_or xs k 0 ≢ 10)
    → (k : ℕ) → s ≤ k → k < e → get_or xs k 0 ≢ 10
none_between xs s m e before after k low high = elim (cases_lt k m) [ inl lt ↦ before k low lt | inr ge ↦ after k ge high ]

-- a line that is taken: from s to the line feed at e, of which n bytes are the line
pub taken_line : (xs : List ℕ) (s e n : ℕ) (more : List ℕ) → s ≤ e → e < length xs → ((k : ℕ) → s ≤ k → k < e → get_or xs k 0 ≢ 10) → get_or xs e 0 ≡ 10
    → n ≤ length (slice_range xs s e) → take n (slice_range xs s e) ≡ without_return (slice_range xs s e)
    → lines_of (drop s xs ++ more) ≡ slice_range xs s (s + n) ∷ lines_of (drop (e + 1) xs ++ more)
taken_line xs s e n more low high none found within value =
    let short : n ≤ e - s = omega (arith, length-take (e - s) (drop s xs)) in
    line_off_front xs s e more low high none found
    ∙ ap (λ (line : List ℕ). line ∷ lines_of (drop (e + 1) xs ++ more)) (sym (front_of_slice xs s e n short ∙ value))

-- what is left has no line feed, and is this long
pub rest_none : (xs : List ℕ) (s e : ℕ) → length xs ≤ e → ((k : ℕ) → s ≤ k → k < e → get_or xs k 0 ≢ 10) → NoFeed (drop s xs)
rest_none xs s e past none = subst NoFeed (slice_to_end xs s e past) (part_none xs s e none)

pub rest_length : (xs : List ℕ) (s e n : ℕ) → length xs ≤ e → n ≤ length (slice_range xs s e) → take n (slice_range xs s e) ≡ without_return (slice_range xs s e)
    → length (without_return (drop s xs)) ≡ n
rest_length xs s e n past within value =
    ap (λ (ys : List ℕ). length (without_return ys)) (sym (slice_to_end xs s e past)) ∙ (ap length (sym value) ∙ length-take-le n (slice_range xs s e) within)

pub only_line : (bytes : List ℕ) → 0 < length bytes → NoFeed bytes → bytes ∷ [] ≡ lines_of bytes
only_line [] some h = absurd (omega arith)
only_line (b ∷ bs) some h = sym (one_line b bs h)
