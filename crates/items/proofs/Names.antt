-- Names, as tests and as facts.
use Rattle.std.proofs.Common.{◌≡◌, ℕ, List, length, Bool, true, false, arith, refl, ap, sym, ◌∙◌}
use Rattle.std.specs.Prelude.{Option, Some, None, IsSome, IfSome, IsTrue, ◌↔◌, nat_le, ◌&&◌, if◌then◌else◌}
use Rattle.std.specs.List.{list_all}
use Rattle.std.proofs.lemmas.Bool.{and_parts, and_from, leb-true, le-leb, false_from_ne_true}
use Rattle.std.proofs.lemmas.List.Sums.{AllPass-from_list_all, list_all-from_AllPass}
use Rattle.items.specs.Name.{IsName, is_name, is_name_byte, name_of}

passed : (most : ℕ) (bytes : List ℕ) → is_name most bytes ≡ true → IsName most bytes
passed most bytes h =
    let all = and_parts (nat_le 1 (length bytes) && nat_le (length bytes) most) (list_all is_name_byte bytes) h in
    let both = and_parts (nat_le 1 (length bytes)) (nat_le (length bytes) most) all.0 in
    let some = leb-true 1 (length bytes) both.0 in
    record { some = omega arith; short = leb-true (length bytes) most both.1; made = AllPass-from_list_all is_name_byte bytes all.1 }

passes : (most : ℕ) (bytes : List ℕ) → IsName most bytes → is_name most bytes ≡ true
passes most bytes h =
    let some = h.some in
    and_from (nat_le 1 (length bytes) && nat_le (length bytes) most) (list_all is_name_byte bytes)
    (and_from (nat_le 1 (length bytes)) (nat_le (length bytes) most) (le-leb 1 (length bytes) (omega arith)) (le-leb (length bytes) most h.short))
    (list_all-from_AllPass is_name_byte bytes h.made)

-- a test that says whether the bytes are a name
pub name_test : (most : ℕ) (bytes : List ℕ) (test : Bool) → (IsTrue test ↔ IsName most bytes) → test ≡ is_name most bytes
name_test most bytes true h = sym (passes most bytes (h.0 refl))
name_test most bytes false h = sym (false_from_ne_true (is_name most bytes) (λ yes. let bad = h.1 (passed most bytes yes) in cc))

-- a name or none, by what is known of both
pub name_found : (most : ℕ) (bytes : List ℕ) (found : Option (List ℕ)) → (IsSome found ↔ IsName most bytes) → IfSome found (λ name. name ≡ bytes) → found ≡ name_of most bytes
name_found most bytes (Some name) is value = ap Some value ∙ sym (ap (λ b. if b then Some bytes else None) (passes most bytes (is.0 refl)))
name_found most bytes None is value = sym (ap (λ b. if b then Some bytes else None) (false_from_ne_true (is_name most bytes) (λ yes. let bad = is.1 (passed most bytes yes) in cc)))
