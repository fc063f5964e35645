-- Lines that are taken, as what they say.
use Rattle.std.proofs.Common.{◌≡◌, ◌≢◌, ℕ, ℤ, suc, ◌<◌, ◌≤◌, ◌⊎◌, inl, inr, arith, subst, if◌then◌else◌, List, [], ◌∷◌, ◌++◌, length, refl, ap, sym, ◌∙◌, cond, Bool, true, false}
use Rattle.std.specs.Prelude.{IsSome, nat_lt, Option, None, Some, Result, Ok, Err, OnErr}
use Rattle.std.proofs.lemmas.Bool.{lt-ltb, le-ltb}
use Rattle.script_text.specs.Lines.{lines_of, begins_with, most_lines, longest_line}
use Rattle.script_text.specs.Splits.{Split, TakesLine, StartsTooLong}
use Rattle.script_text.specs.Fields.{fields_of}
use Rattle.script_text.specs.Numbers.{integer_of}
use Rattle.stream_model.specs.Tags.{Mark}
use Rattle.script_text.specs.Grammar.{Parsed, Nothing, Bad, Says, Feed, SaysList, ◌>>=◌, says, command_of, feed_of, block_of, given_of, marks_of, mark_of, with_items, at_sign, number_sign, parsed_line, parsed_at, parsed_from}
use Rattle.script_text.specs.Scripts.{said_of, GoesOn, SaysNext}

pub on_err : {X E P : Type 0} (r : Result X E) → P → OnErr r P
on_err (Ok x) p = tt
on_err (Err e) p = p

-- a line with a field, which is no comment and not too long, says what its fields do
pub list_asked : (line word : List ℕ) (fields : List (List ℕ)) → length line ≤ longest_line → begins_with number_sign line ≡ false → fields_of line ≡ word ∷ fields →
    SaysList (says (command_of word fields)) → SaysList (parsed_line line)
unfolding parsed_line
list_asked line word fields short other is h = let within = le-ltb longest_line (length line) short in rw (within, other, is) h

pub says_next : (said : Parsed) (old new : Split) → GoesOn said old new → SaysNext said old new
says_next Nothing old new h = h
says_next Bad old new h = λ more. (said_of new more, h.says more)
says_next (Says c) old new h = h

-- the line that was taken says what a line of its number and bytes says
pub taken_says : (old new : Split) → TakesLine old new → (more : List ℕ) → said_of old more ≡ parsed_at (suc old.taken) new.line ∷ said_of new more
taken_says old new h more =
    ap (parsed_from (suc old.taken)) (h.first more)
    ∙ ap (λ (n : ℕ). parsed_at (suc old.taken) new.line ∷ parsed_from (suc n) (lines_of (new.rest ++ more))) (sym h.counted)

pub taken_bad : (old new : Split) → TakesLine old new → parsed_at (suc old.taken) new.line ≡ Bad → SaysNext Bad old new
taken_bad old new h bad more = (said_of new more, taken_says old new h more ∙ ap (λ (said : Parsed). said ∷ said_of new more) bad)

pub taken_next : (old new : Split) (said : Parsed) → TakesLine old new → new.taken ≤ most_lines → parsed_at (suc old.taken) new.line ≡ said → SaysNext said old new
taken_next old new said h low is = says_next said old new (record {
  says = λ more. taken_says old new h more ∙ ap (λ (p : Parsed). p ∷ said_of new more) is;
  counted = low;
  following = h.counted;
})

pub within_lines : (n : ℕ) (line : List ℕ) → n ≤ most_lines → parsed_at n line ≡ parsed_line line
within_lines n line low = let within = le-ltb most_lines n low in rw within refl

pub beyond_lines : (n : ℕ) (line : List ℕ) → most_lines < n → parsed_at n line ≡ Bad
beyond_lines n line high = let beyond = lt-ltb most_lines n high in rw beyond refl

-- a line that is too long is bad
pub too_long_bad : (line : List ℕ) → longest_line < length line → parsed_line line ≡ Bad
unfolding parsed_line
too_long_bad line long = let is = lt-ltb longest_line (length line) long in rw is refl

bad_at : (n : ℕ) (line : List ℕ) → parsed_line line ≡ Bad → parsed_at n line ≡ Bad
bad_at n line bad = by_number (nat_lt most_lines n)
  where
    by_number : (t : Bool) → cond t Bad (parsed_line line) ≡ Bad
    by_number true = refl
    by_number false = bad

pub too_long_next : (old new : Split) → ((more : List ℕ) → StartsTooLong (old.rest ++ more)) → SaysNext Bad old new
too_long_next old new h more =
    let long = h more in (
      parsed_from (suc (suc old.taken)) long.1,
      ap (parsed_from (suc old.taken)) long.2 ∙ ap (λ (p : Parsed). p ∷ parsed_from (suc (suc old.taken)) long.1) (bad_at (suc old.taken) long.0 (too_long_bad long.0 long.3)),
    )

-- fields that are marks are one mark or more, and fields that are items and marks at least one of them
some_marks : (o : Option Mark) (p : Option (List Mark)) (ms : List Mark) → (o >>= (λ m. p >>= (λ later. Some (m ∷ later)))) ≡ Some ms → 0 < length ms
some_marks None p ms e = absurd (cc)
some_marks (Some m) None ms e = absurd (cc)
some_marks (Some m) (Some later) ms e = let same : m ∷ later ≡ ms = cc in subst (λ (l : List Mark). 0 < length l) same (omega arith)

marks_are : (fields : List (List ℕ)) (ms : List Mark) → fields ≢ [] → marks_of fields ≡ Some ms → 0 < length ms
marks_are [] ms some e = absurd (some refl)
marks_are (field ∷ fields) ms some e = some_marks (mark_of field) (marks_of fields) ms e

abbrev AreSome : List ℤ × List Mark → Type 0
AreSome given = (0 < length given.0) ⊎ (0 < length given.1)

some_given : (is_mark : Bool) (marks : Option (List Mark)) (item : Option ℤ) (later : Option (List ℤ × List Mark)) (given : List ℤ × List Mark) → ((ms : List Mark) → marks ≡ Some ms → 0 < length ms) →
    (if is_mark then with_items [] marks else (item >>= (λ x. later >>= (λ rest. Some (x ∷ rest.0, rest.1))))) ≡ Some given → AreSome given
some_given true None item later given h e = absurd (cc)
some_given true (Some ms) item later given h e = let same : ([], ms) ≡ given = cc in subst AreSome same (inr (h ms refl))
some_given false marks None later given h e = absurd (cc)
some_given false marks (Some x) None given h e = absurd (cc)
some_given false marks (Some x) (Some rest) given h e = let same : (x ∷ rest.0, rest.1) ≡ given = cc in subst AreSome same (inl (omega arith))

given_are : (fields : List (List ℕ)) (given : List ℤ × List Mark) → fields ≢ [] → given_of fields ≡ Some given → AreSome given
given_are [] given some e = absurd (some refl)
given_are (field ∷ fields) given some e =
    some_given (begins_with at_sign field) (marks_of (field ∷ fields)) (integer_of field) (given_of fields) given (λ ms h. marks_are (field ∷ fields) ms some h) e

says_given : (b : Option (List ℕ)) (given : Option (List ℤ × List Mark)) → IsSome b → IsSome given → ((g : List ℤ × List Mark) → given ≡ Some g → AreSome g) → SaysList (says (b >>= (λ name. given >>= (λ g. Some (Feed name g.0 g.1)))))
says_given None given h k are = absurd (cc)
says_given (Some name) None h k are = absurd (cc)
says_given (Some name) (Some g) h k are = are g refl

-- a feed of some fields brings items or marks
pub fed_items : (name : List ℕ) (fields : List (List ℕ)) → IsSome (block_of name) → IsSome (given_of fields) → fields ≢ [] → SaysList (says (feed_of (name ∷ fields)))
fed_items name fields b given some = says_given (block_of name) (given_of fields) b given (λ g e. given_are fields g some e)

-- and so does one with fields for marks
pub fed_marks : (name : List ℕ) (fields marks : List (List ℕ)) (items : List ℤ) → IsSome (block_of name) → IsSome (given_of fields) → given_of fields ≡ with_items items (marks_of marks) → marks ≢ [] →
    SaysList (says (feed_of (name ∷ fields)))
fed_marks name fields marks items b given e some = says_given (block_of name) (given_of fields) b given (λ g is. of_marks (marks_of marks) g (sym e ∙ is) (λ ms h. marks_are marks ms some h))
  where
    of_marks : (o : Option (List Mark)) (g : List ℤ × List Mark) → with_items items o ≡ Some g → ((ms : List Mark) → o ≡ Some ms → 0 < length ms) → AreSome g
    of_marks None g e h = absurd (cc)
    of_marks (Some ms) g e h = let same : (items, ms) ≡ g = cc in subst AreSome same (inr (h ms refl))
