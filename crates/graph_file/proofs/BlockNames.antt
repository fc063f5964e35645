-- The names of blocks are ASCII, and what is kept of a text that may be one.
use Rattle.std.proofs.Common.{◌≡◌, ◌∙◌, sym, ap, subst, ℕ, zero, suc, ◌<◌, ◌≤◌, Bool, true, false, if◌then◌else◌, List, [], ◌∷◌, length, arith, inl, inr, eqb-true}
use Rattle.std.specs.Prelude.{nat_le, ◌&&◌, ◌||◌, ◌==◌, ◌↔◌, IsTrue, IsUtf8}
use Rattle.std.specs.Char.{is_ascii_alphanumeric}
use Rattle.std.specs.List.{list_all}
use Rattle.std.specs.Str.{IsAscii}
use Rattle.std.proofs.lemmas.Bool.{and_parts, or_cases, leb-true}
use Rattle.std.proofs.lemmas.Str.{IsUtf8-from_ascii}
use Rattle.items.specs.Name.{IsName}
use Rattle.items.proofs.Names.{name_test}
use Rattle.graph_model.specs.Graphs.{is_name}
use Rattle.graph_file.specs.Refusals.{block_name}

abbrev is_between : ℕ → ℕ → ℕ → Bool
is_between least most c = nat_le least c && nat_le c most

abbrev name_byte : ℕ → Bool
name_byte c = is_ascii_alphanumeric c || c == 95 || c == 46 || c == 45

in_range : (least most c : ℕ) → most < 128 → is_between least most c ≡ true → c < 128
in_range least most c small is = let high = leb-true c most (and_parts (nat_le least c) (nat_le c most) is).1 in omega arith

low_letter : (c : ℕ) → is_ascii_alphanumeric c ≡ true → c < 128
low_letter c is =
    elim (or_cases (is_between 48 57 c || is_between 65 90 c) (is_between 97 122 c) is) [
      | inl low ↦ elim (or_cases (is_between 48 57 c) (is_between 65 90 c) low) [ inl digit ↦ in_range 48 57 c (omega arith) digit | inr capital ↦ in_range 65 90 c (omega arith) capital ]
      | inr small ↦ in_range 97 122 c (omega arith) small
    ]

low_byte : (c : ℕ) → name_byte c ≡ true → c < 128
low_byte c is =
    elim (or_cases (is_ascii_alphanumeric c || c == 95 || c == 46) (c == 45) is) [
      | inl more ↦ elim (or_cases (is_ascii_alphanumeric c || c == 95) (c == 46) more) [
        | inl first ↦ elim (or_cases (is_ascii_alphanumeric c) (c == 95) first) [ inl letter ↦ low_letter c letter | inr line ↦ (let e = eqb-true c 95 line in omega arith) ]
        | inr dot ↦ (let e = eqb-true c 46 dot in omega arith)
      ]
      | inr dash ↦ (let e = eqb-true c 45 dash in omega arith)
    ]

ascii : (s : List ℕ) → list_all name_byte s ≡ true → IsAscii s
ascii [] is i = omega arith
ascii (c ∷ s) is zero = low_byte c (and_parts (name_byte c) (list_all name_byte s) is).0
ascii (c ∷ s) is (suc i) = ascii s (and_parts (name_byte c) (list_all name_byte s) is).1 i

pub IsUtf8-is_name : (s : List ℕ) → is_name s ≡ true → IsUtf8 s
IsUtf8-is_name s is = IsUtf8-from_ascii s (ascii s (and_parts (nat_le 1 (length s) && nat_le (length s) 32) (list_all name_byte s) is).1)

-- what is kept of a text, by a test that says whether its bytes are a name
module _ (text bytes : List ℕ) (same : bytes ≡ text) (test : Bool) (is : IsTrue test ↔ IsName 32 bytes) where
  tested : test ≡ is_name text
  tested = name_test 32 bytes test is ∙ ap is_name same

  pub block_name-name : test ≡ true → text ≡ block_name text
  block_name-name passed = sym (ap (λ b. if b then text else []) (sym tested ∙ passed))

  pub block_name-other : test ≡ false → [] ≡ block_name text
  block_name-other failed = sym (ap (λ b. if b then text else []) (sym tested ∙ failed))

  pub block_name-fits : test ≡ true → length text ≤ 32
  block_name-fits passed = subst (λ s. length s ≤ 32) same (is.0 passed).short
