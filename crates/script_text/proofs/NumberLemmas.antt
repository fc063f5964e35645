-- Digits, one by one.
use Rattle.std.proofs.Common.{◌≡◌, ℕ, ◌+◌, ◌-◌, ◌*◌, ◌<◌, ◌≤◌, List, [], ◌∷◌, length, Bool, true, false, cond, refl, arith}
use Rattle.std.specs.Prelude.{Some, None, nat_le, ◌&&◌}
use Rattle.std.proofs.lemmas.Bool.{lt-leb, le-leb}
use Rattle.script_text.specs.Numbers.{is_digit, digits_after, natural_of, within}

pub natural_of_some : (bytes : List ℕ) → 0 < length bytes → natural_of bytes ≡ digits_after 0 bytes
natural_of_some [] some = absurd (omega arith)
natural_of_some (b ∷ bs) some = refl

-- what is too great already gets no smaller
pub too_great : (most n : ℕ) (bytes : List ℕ) → most < n → within 0 most (digits_after n bytes) ≡ None
too_great most n [] more = let above = lt-leb n most more in rw above (by_low (nat_le 0 n) n)
  where
    by_low : (t : Bool) (n : ℕ) → cond (t && false) (Some n) None ≡ None
    by_low true n = refl
    by_low false n = refl
too_great most n (b ∷ bs) more = by_digit (is_digit b) (too_great most (10 * n + (b - 48)) bs (omega arith))
  where
    by_digit : (t : Bool) → within 0 most (digits_after (10 * n + (b - 48)) bs) ≡ None → within 0 most (cond t (digits_after (10 * n + (b - 48)) bs) None) ≡ None
    by_digit true h = h
    by_digit false h = refl

pub within_most : (most n : ℕ) → n ≤ most → within 0 most (Some n) ≡ Some n
within_most most n low = let above = le-leb n most low in let below = le-leb 0 n (omega arith) in rw (above, below) refl

-- no digit
pub no_digit : (most n b : ℕ) (bs : List ℕ) → is_digit b ≡ false → within 0 most (digits_after n (b ∷ bs)) ≡ None
no_digit most n b bs other = rw other refl

-- one more digit makes it too great
pub digit_too_great : (most n b : ℕ) (bs : List ℕ) → is_digit b ≡ true → most < 10 * n + (b - 48) → within 0 most (digits_after n (b ∷ bs)) ≡ None
digit_too_great most n b bs digit more = rw digit (too_great most (10 * n + (b - 48)) bs more)

pub one_digit : (n b : ℕ) (bs : List ℕ) → is_digit b ≡ true → digits_after n (b ∷ bs) ≡ digits_after (10 * n + (b - 48)) bs
one_digit n b bs digit = rw digit refl
