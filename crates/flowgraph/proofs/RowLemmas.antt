-- Rows in one list.
use Rattle.std.proofs.Common.{◌≡◌, ℕ, ◌-◌, ◌<◌, ◌≤◌, List, [], ◌∷◌, ◌++◌, take, drop, length, get_or, arith, ap, sym, ◌∙◌, length-append}
use Rattle.std.specs.List.{slice_range}
use Rattle.std.proofs.lemmas.List.{length-map, get_or-map, get_or_default, map-append, drop-append-le, take-append-le, drop_at, length-drop, take_all}
use Rattle.stream_model.proofs.Maps.{map-agree}
use Rattle.flowgraph.specs.declared.rows.Span.{Span}
use Rattle.flowgraph.specs.Rows.{rows_of, AreRows}

module _ {T : Type 0} (xs : List T) where
  -- a row lies at its span, within the items
  pub record IsRow (spans : List Span) (k : ℕ) (p : Span) : Type 0 where
    pub low : k < length spans
    pub rises : p.from ≤ p.to
    pub within : p.to ≤ length xs
    pub is : get_or (rows_of xs spans) k [] ≡ slice_range xs p.from p.to

  pub has_row : (spans : List Span) (k : ℕ) → k < length (rows_of xs spans) → k < length spans
  has_row spans k low = let count = length-map spans (λ (p : Span). slice_range xs p.from p.to) in omega arith

  pub is_row : (spans : List Span) → AreRows xs spans → (k : ℕ) (d : Span) → k < length (rows_of xs spans) → IsRow spans k (get_or spans k d)
  is_row spans rows k d low =
      let here = has_row spans k low in
      let both = rows k d here in
      record {
        low = here;
        rises = both.0;
        within = both.1;
        is = get_or_default (rows_of xs spans) k [] (slice_range xs (get_or spans k d).from (get_or spans k d).to) low
            ∙ get_or-map (λ (p : Span). slice_range xs p.from p.to) spans k d (slice_range xs (get_or spans k d).from (get_or spans k d).to) here;
      }

  -- items behind the end change no row
  range-append : (row : List T) (a b : ℕ) → a ≤ b → b ≤ length xs → slice_range (xs ++ row) a b ≡ slice_range xs a b
  range-append row a b rises within =
      ap (take (b - a)) (drop-append-le a xs row (omega arith)) ∙ take-append-le (b - a) (drop a xs) row (let l = length-drop a xs in omega arith)

  last_range : (row : List T) (a b : ℕ) → a ≡ length xs → b ≡ length (xs ++ row) → slice_range (xs ++ row) a b ≡ row
  last_range row a b first last =
      ap (take (b - a)) (drop_at xs row a (sym first)) ∙ take_all (b - a) row (let l = length-append xs row in omega arith)

  pub pushed : (spans : List Span) → AreRows xs spans → (row : List T) (p : Span) → p.from ≡ length xs → p.to ≡ length (xs ++ row) → rows_of (xs ++ row) (spans ++ p ∷ []) ≡ rows_of xs spans ++ row ∷ []
  pushed spans rows row p first last =
      map-append (λ (q : Span). slice_range (xs ++ row) q.from q.to) spans (p ∷ [])
      ∙ ap (λ l. l ++ slice_range (xs ++ row) p.from p.to ∷ [])
      (map-agree (λ (q : Span). (q.from ≤ q.to) × (q.to ≤ length xs)) (λ q. slice_range (xs ++ row) q.from q.to) (λ q. slice_range xs q.from q.to) spans rows (λ q both. range-append row q.from q.to both.0 both.1))
      ∙ ap (λ r. rows_of xs spans ++ r ∷ []) (last_range row p.from p.to first last)

  pub still_rows : (spans : List Span) → AreRows xs spans → (row : List T) → AreRows (xs ++ row) spans
  still_rows spans rows row k d low = let both = rows k d low in let l = length-append xs row in (both.0, omega arith)
