-- Rows of items that lie one behind the other in one list.
use Rattle.std.specs.Prelude.{◌≤◌, List, map, length, slice_range, All}
use Rattle.flowgraph.specs.declared.rows.Span.{Span}

-- the rows of a list of items, each at its span
abbrev pub rows_of : {T : Type 0} → List T → List Span → List (List T)
rows_of xs spans = map (λ p. slice_range xs p.from p.to) spans

-- no span is past the end
abbrev pub AreRows : {T : Type 0} → List T → List Span → Type 0
AreRows xs spans = All (λ p. (p.from ≤ p.to) × (p.to ≤ length xs)) spans
