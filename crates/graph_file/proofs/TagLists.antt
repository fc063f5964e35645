-- The tags of an array, one by one.
use Rattle.std.proofs.Common.{◌≡◌, ℕ, ◌+◌, ◌<◌, List, [], ◌∷◌, ◌++◌, length, get_or, drop, Option, Some, None, IsSome, option_and_then, ap, sym, ◌∙◌}
use Rattle.toml.specs.Data.{Items, item, as_table}
use Rattle.toml.specs.View.{view, items_view}
use Rattle.toml.specs.declared.value.Value.{Value}
use Rattle.toml.proofs.Views.{items_view-drop}
use Rattle.graph_file.specs.declared.feed.FileMark.{FileMark}
use Rattle.graph_file.specs.Feeds.{mark_in, marks_from}

-- behind some tags the rest of an array has the tags of the whole
abbrev pub IsRest : List Value → ℕ → Option (List FileMark) → Type 0
IsRest vs i whole = (found : List FileMark) × (marks_from found (items_view (drop i vs)) ≡ whole)

-- past one that is a tag
pub past_tag : (vs : List Value) (i : ℕ) (v : Value) (whole : Option (List FileMark)) → i < length vs → v ≡ get_or vs i v →
    (o : Option FileMark) → o ≡ mark_in (as_table (view v)) → IsSome o → IsRest vs i whole → IsRest vs (i + 1) whole
past_tag vs i v whole in' is None e some h = absurd (cc)
past_tag vs i v whole in' is (Some m) e some h =
    let rest : Items = items_view (drop (i + 1) vs) in
    let front : items_view (drop i vs) ≡ item (view v) rest = items_view-drop vs i v in' ∙ ap (λ w. item (view w) rest) (sym is) in (
      h.0 ++ m ∷ [],
      ap (option_and_then (λ x. marks_from (h.0 ++ x ∷ []) rest)) e ∙ sym (ap (marks_from h.0) front) ∙ h.1,
    )
