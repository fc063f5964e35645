-- Settings as the entries of a map.
use Rattle.std.proofs.Common.{◌≡◌, ℕ, ◌+◌, ◌<◌, Bool, true, false, not, ◌&&◌, cond, inl, inr, List, [], ◌∷◌, map, All, Some, None, Result, Ok, Err, refl, sym, ap, ◌∙◌, subst, arith}
use Rattle.std.specs.Prelude.{filter, nat_le, nat_lt, ◌==◌, OnOk, OnErr}
use Rattle.std.specs.List.{Any}
use Rattle.std.specs.Map.{lookup}
use Rattle.std.specs.Ordering.{nat_cmp, match_ordering, is_lt, is_le, is_eq}
use Rattle.std.specs.declared.cmp.Ordering.TheVariants.{Less, Equal, Greater}
use Rattle.std.specs.declared.ops.Bound.TheVariants.{Included, Excluded, Unbounded}
use Rattle.std.specs.BTreeMap.{insert_entry, is_at}
use Rattle.std.specs.BTreeMap.Range.{entries_between, range_contains}
use Rattle.std.proofs.lemmas.Bool.{lt-ltb, le-ltb, le-leb, lt-leb, eq-eqb, ne_eqb, cases_order}
use Rattle.std.proofs.lemmas.List.Elements.{All-nil, All-cons, filter_agree}
use Rattle.stream_model.specs.Settings as model
use Rattle.stream_model.proofs.Putting.{put-behind, put-here, put-before, put-rises}
use Rattle.settings.specs.declared.value.Value.{Value}
use Rattle.settings.specs.Values.{placed}

cmp-less : (a b : ℕ) → a < b → nat_cmp a b ≡ Less
cmp-less a b less = ap (λ t. cond t Less (cond (a == b) Equal Greater)) (lt-ltb a b less)

cmp-equal : (a b : ℕ) → a ≡ b → nat_cmp a b ≡ Equal
cmp-equal a b same = ap (λ t. cond t Less (cond (a == b) Equal Greater)) (le-ltb a b (omega arith)) ∙ ap (λ t. cond t Equal Greater) (eq-eqb a b same)

cmp-greater : (a b : ℕ) → b < a → nat_cmp a b ≡ Greater
cmp-greater a b more = ap (λ t. cond t Less (cond (a == b) Equal Greater)) (le-ltb a b (omega arith)) ∙ ap (λ t. cond t Equal Greater) (ne_eqb a b (λ e. omega arith))

-- a map takes an entry in as settings take in a setting
pub map-insert_entry : (es : List (ℕ × Value)) (k : ℕ) (v : Value) → map placed (insert_entry nat_cmp es k v) ≡ model.put_setting (placed (k, v)) (map placed es)
map-insert_entry [] k v = refl
map-insert_entry (e ∷ es) k v =
    elim (cases_order e.0 k) [
      | inl same ↦
          ap (λ o. map placed (match_ordering o ((k, v) ∷ e ∷ es) ((e.0, v) ∷ es) (e ∷ insert_entry nat_cmp es k v))) (cmp-equal k e.0 (sym same))
          ∙ ap (λ n. placed (n, v) ∷ map placed es) same
          ∙ sym (put-here (placed (k, v)) (placed e) (map placed es) same)
      | inr other ↦ elim other [
        | inl earlier ↦
            ap (λ o. map placed (match_ordering o ((k, v) ∷ e ∷ es) ((e.0, v) ∷ es) (e ∷ insert_entry nat_cmp es k v))) (cmp-greater k e.0 earlier)
            ∙ ap (λ hs. placed e ∷ hs) (map-insert_entry es k v)
            ∙ sym (put-behind (placed (k, v)) (placed e) (map placed es) earlier)
        | inr later ↦
            ap (λ o. map placed (match_ordering o ((k, v) ∷ e ∷ es) ((e.0, v) ∷ es) (e ∷ insert_entry nat_cmp es k v))) (cmp-less k e.0 later)
            ∙ sym (put-before (placed (k, v)) (placed e) (map placed es) later)
      ]
    ]

-- where no entry is found at a key, no setting is made at that item
none_at : (es : List (ℕ × Value)) (k : ℕ) → lookup (is_at (nat_cmp k)) es ≡ None → All (λ (h : model.Held). h.at ≡ k → ⊥) (map placed es)
none_at [] k none = All-nil (λ (h : model.Held). h.at ≡ k → ⊥)
none_at (e ∷ es) k none =
    elim (cases_order k e.0) [
      | inl same ↦ absurd (let found : lookup (is_at (nat_cmp k)) (e ∷ es) ≡ Some e.1 = ap (λ o. cond (is_eq o) (Some e.1) (lookup (is_at (nat_cmp k)) es)) (cmp-equal k e.0 same) in cc)
      | inr other ↦ elim other [
        | inl less ↦
            All-cons (λ (h : model.Held). h.at ≡ k → ⊥) (placed e) (map placed es) (λ same. omega arith)
            (none_at es k (sym (ap (λ o. cond (is_eq o) (Some e.1) (lookup (is_at (nat_cmp k)) es)) (cmp-less k e.0 less)) ∙ none))
        | inr more ↦
            All-cons (λ (h : model.Held). h.at ≡ k → ⊥) (placed e) (map placed es) (λ same. omega arith)
            (none_at es k (sym (ap (λ o. cond (is_eq o) (Some e.1) (lookup (is_at (nat_cmp k)) es)) (cmp-greater k e.0 more)) ∙ none))
      ]
    ]

pub not_any : (es : List (ℕ × Value)) (k : ℕ) → lookup (is_at (nat_cmp k)) es ≡ None → Any (λ (h : model.Held). h.at ≡ k) (map placed es) → ⊥
not_any es k none any = none_at es k none any.0 any.1 any.2 (ap (λ h. h.at) any.3 ∙ any.4)

-- a choice by the keys is a choice by the items
map-filter : (p : ℕ → Bool) (es : List (ℕ × Value)) → map placed (filter (λ e. p e.0) es) ≡ filter (λ h. p h.at) (map placed es)
map-filter p [] = refl
map-filter p (e ∷ es) =
    elim (p e.0) as (λ b. map placed (cond b (e ∷ filter (λ e. p e.0) es) (filter (λ e. p e.0) es)) ≡ cond b (placed e ∷ filter (λ h. p h.at) (map placed es)) (filter (λ h. p h.at) (map placed es))) [
      | true ↦ ap (λ hs. placed e ∷ hs) (map-filter p es)
      | false ↦ map-filter p es
    ]

map-chosen : (p q : ℕ → Bool) → ((n : ℕ) → p n ≡ q n) → (es : List (ℕ × Value)) → map placed (filter (λ e. p e.0) es) ≡ filter (λ h. q h.at) (map placed es)
map-chosen p q same es = map-filter p es ∙ filter_agree (λ (h : model.Held). p h.at) (λ (h : model.Held). q h.at) (λ h. same h.at) (map placed es)

-- the settings up to item a
pub map-up_to : (a : ℕ) (es : List (ℕ × Value)) → map placed (entries_between nat_cmp Unbounded (Included a) es) ≡ filter (λ h. nat_le h.at a) (map placed es)
map-up_to a es = map-chosen (range_contains nat_cmp Unbounded (Included a)) (λ n. nat_le n a) same es
  where
    same : (n : ℕ) → range_contains nat_cmp Unbounded (Included a) n ≡ nat_le n a
    same n =
        elim (cases_order a n) [
          | inl here ↦ ap (λ o. not (is_lt o)) (cmp-equal a n here) ∙ sym (le-leb n a (omega arith))
          | inr other ↦ elim other [
            | inl later ↦ ap (λ o. not (is_lt o)) (cmp-less a n later) ∙ sym (lt-leb n a later)
            | inr earlier ↦ ap (λ o. not (is_lt o)) (cmp-greater a n earlier) ∙ sym (le-leb n a (omega arith))
          ]
        ]

from_next : (from n : ℕ) → is_le (nat_cmp (from + 1) n) ≡ not (nat_le n from)
from_next from n =
    elim (cases_order (from + 1) n) [
      | inl here ↦ ap is_le (cmp-equal (from + 1) n here) ∙ ap not (sym (lt-leb n from (omega arith)))
      | inr other ↦ elim other [
        | inl later ↦ ap is_le (cmp-less (from + 1) n later) ∙ ap not (sym (lt-leb n from (omega arith)))
        | inr earlier ↦ ap is_le (cmp-greater (from + 1) n earlier) ∙ ap not (sym (le-leb n from (omega arith)))
      ]
    ]

before : (to n : ℕ) → not (is_le (nat_cmp to n)) ≡ nat_lt n to
before to n =
    elim (cases_order to n) [
      | inl here ↦ ap (λ o. not (is_le o)) (cmp-equal to n here) ∙ sym (le-ltb n to (omega arith))
      | inr other ↦ elim other [
        | inl later ↦ ap (λ o. not (is_le o)) (cmp-less to n later) ∙ sym (le-ltb n to (omega arith))
        | inr earlier ↦ ap (λ o. not (is_le o)) (cmp-greater to n earlier) ∙ sym (lt-ltb n to earlier)
      ]
    ]

-- the settings after item from and before item to
pub map-made : (from to : ℕ) (es : List (ℕ × Value)) → map placed (entries_between nat_cmp (Included (from + 1)) (Excluded to) es) ≡ filter (λ h. not (nat_le h.at from) && nat_lt h.at to) (map placed es)
map-made from to es =
    map-chosen (range_contains nat_cmp (Included (from + 1)) (Excluded to)) (λ n. not (nat_le n from) && nat_lt n to)
    (λ n i. from_next from n i && before to n i) es

-- all of them
pub all_between : (es : List (ℕ × Value)) → entries_between nat_cmp Unbounded Unbounded es ≡ es
all_between [] = refl
all_between (e ∷ es) = ap (λ fs. e ∷ fs) (all_between es)

-- an insertion keeps the order, whether or not there was memory for it
pub inserted_rises : {T E : Type 0} (r : Result T E) (old new : List (ℕ × Value)) (k : ℕ) (v : Value) → OnOk r (new ≡ insert_entry nat_cmp old k v) → OnErr r (new ≡ old) → model.IsRising (map placed old) → model.IsRising (map placed new)
inserted_rises (Ok x) old new k v ok err rising =
    subst model.IsRising (sym (ap (map placed) ok ∙ map-insert_entry old k v)) (put-rises (placed (k, v)) (map placed old) rising)
inserted_rises (Err e) old new k v ok err rising = subst model.IsRising (sym (ap (map placed) err)) rising
