-- Arrays and tables, item by item and key by key.
use Rattle.std.proofs.Common.{◌≡◌, ℕ, zero, suc, ◌+◌, ◌<◌, ℤ, pos, Bool, true, false, ◌&&◌, List, [], ◌∷◌, ◌++◌, length, get_or, drop, take, String, Global, string_bytes, refl, ap, sym, ◌∙◌, append_assoc}
use Rattle.std.specs.List.{list_all}
use Rattle.std.specs.Map.{keys_of}
use Rattle.toml.specs.Data.{Data, as_integer}
use Rattle.toml.specs.declared.value.Value.{Value}
use Rattle.toml.specs.View.{view, items_view, members_view}
use Rattle.toml.proofs.Views.{items_view-drop}
use Rattle.kind_schema.specs.declared.key.Key.{Key}
use Rattle.kind_schema.specs.Tables.{each_item, numbers_of, integer_or, has_only, is_known}

-- an item that passes a test leaves it to those behind it, and one that fails decides
each_turn : (test : Data → Bool) (vs : List Value) (i : ℕ) (v : Value) → i < length vs → v ≡ get_or vs i v → each_item test (items_view (drop i vs)) ≡ (test (view v) && each_item test (items_view (drop (i + 1) vs)))
each_turn test vs i v h is = ap (each_item test) (items_view-drop vs i v h) ∙ ap (λ w. test (view w) && each_item test (items_view (drop (i + 1) vs))) (sym is)

pub each_pass :
    (test : Data → Bool) (vs : List Value) (i : ℕ) (v : Value) → i < length vs → v ≡ get_or vs i v → test (view v) ≡ true → each_item test (items_view (drop i vs)) ≡ each_item test (items_view vs)
    → each_item test (items_view (drop (i + 1) vs)) ≡ each_item test (items_view vs)
each_pass test vs i v h is pass so_far = sym (each_turn test vs i v h is ∙ ap (λ b. b && each_item test (items_view (drop (i + 1) vs))) pass) ∙ so_far

pub each_fail :
    (test : Data → Bool) (vs : List Value) (i : ℕ) (v : Value) → i < length vs → v ≡ get_or vs i v → test (view v) ≡ false → each_item test (items_view (drop i vs)) ≡ each_item test (items_view vs)
    → false ≡ each_item test (items_view vs)
each_fail test vs i v h is fail so_far = sym (each_turn test vs i v h is ∙ ap (λ b. b && each_item test (items_view (drop (i + 1) vs))) fail) ∙ so_far

pub numbers_pass :
    (vs : List Value) (i : ℕ) (v : Value) (ns ms : List ℤ) → i < length vs → v ≡ get_or vs i v → ns ++ numbers_of (items_view (drop i vs)) ≡ numbers_of (items_view vs) → ms ≡ ns ++ integer_or (pos 0) (as_integer (view v)) ∷ []
    → ms ++ numbers_of (items_view (drop (i + 1) vs)) ≡ numbers_of (items_view vs)
numbers_pass vs i v ns ms h is so_far more =
    let rest = numbers_of (items_view (drop (i + 1) vs)) in
    let turn : numbers_of (items_view (drop i vs)) ≡ integer_or (pos 0) (as_integer (view v)) ∷ rest =
    ap numbers_of (items_view-drop vs i v h) ∙ ap (λ w. integer_or (pos 0) (as_integer (view w)) ∷ rest) (sym is) in
    ap (λ xs. xs ++ rest) more ∙ append_assoc ns (integer_or (pos 0) (as_integer (view v)) ∷ []) rest ∙ ap (λ xs. ns ++ xs) (sym turn) ∙ so_far

-- the first numbers of an array
pub numbers_of-take : (n : ℕ) (vs : List Value) → numbers_of (items_view (take n vs)) ≡ take n (numbers_of (items_view vs))
numbers_of-take zero vs = refl
numbers_of-take (suc n) [] = refl
numbers_of-take (suc n) (v ∷ vs) = ap (λ ns. integer_or (pos 0) (as_integer (view v)) ∷ ns) (numbers_of-take n vs)

-- the keys of a table's entries are those of its members
pub only_known : (keys : List Key) (es : List (String Global × Value)) → list_all (λ text. is_known keys (string_bytes text)) (keys_of es) ≡ has_only keys (members_view es)
only_known keys [] = refl
only_known keys (e ∷ es) = ap (λ rest. is_known keys (string_bytes e.0) && rest) (only_known keys es)
