-- Names that go into a table.
use Rattle.std.proofs.Common.{◌≡◌, ℕ, false, List, [], ◌∷◌, ◌++◌, map, ap, sym, ◌∙◌}
use Rattle.std.specs.Prelude.{if◌then◌else◌, bytes_eq}
use Rattle.std.specs.List.{list_any}
use Rattle.std.proofs.lemmas.List.{map-append}
use Rattle.flowgraph.proofs.Places.{list_any-map}

-- where no key has a name, inserting it puts it last
pub fresh_name :
    {V : Type 0} (text : V → List ℕ) (ks : List V) (k : V) → list_any (bytes_eq (text k)) (map text ks) ≡ false →
    map text (if list_any (λ x. bytes_eq (text k) (text x)) ks then ks else ks ++ k ∷ []) ≡ map text ks ++ text k ∷ []
fresh_name text ks k fresh =
    ap (λ b. map text (if b then ks else ks ++ k ∷ [])) (sym (list_any-map text (bytes_eq (text k)) ks) ∙ fresh) ∙ map-append text ks (k ∷ [])
