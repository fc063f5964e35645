-- Rows of tags of which the first are gone.
use Rattle.std.proofs.Common.{◌≡◌, ℕ, zero, suc, ◌+◌, ◌-◌, ◌≤◌, ◌∙◌, ap, sym, subst, arith, false, List, [], ◌∷◌, ◌++◌, length, take, drop, map, insert, length-drop}
use Rattle.std.specs.Ordering.{is_gt}
use Rattle.std.proofs.lemmas.List.{drop-drop, take_all, map-append}
use Rattle.std.proofs.lemmas.List.Kept.{AllPairs-filter}
use Rattle.std.specs.Prelude.{nat_le}
use Rattle.stream_model.specs.Tags.{tag_cmp}
use Rattle.items.specs.declared.marks.Tag.{Tag}
use Rattle.items.specs.Tags.{tag_of}
use Rattle.stream_model.specs.Tags.{IsOrdered}
use Rattle.tags.specs.TagList.{tags_from, kept_of}
use Rattle.tags.proofs.Cuts.{IsCut, from_cut}
use Rattle.tags.proofs.Order.{map_insert}

-- the part of a slice from a place on, where the slice is a row
pub from_place : (xs row : List Tag) (gone : ℕ) → xs ≡ row → take (length xs - gone) (drop gone xs) ≡ drop gone row
from_place xs row gone e = take_all (length xs - gone) (drop gone xs) (omega (arith, length-drop gone xs)) ∙ ap (drop gone) e

-- what is kept where those before a cut are gone too
pub more_gone : (n : ℕ) (xs row : List Tag) (gone count : ℕ) → xs ≡ row → IsCut n (take (length xs - gone) (drop gone xs)) count → count ≤ length (take (length xs - gone) (drop gone xs))
    → kept_of row (gone + count) ≡ tags_from n (kept_of row gone)
more_gone n xs row gone count e cut le =
    let behind = from_place xs row gone e in
    ap (map tag_of) (sym (drop-drop count gone row)) ∙ from_cut n (drop gone row) count (subst (λ ys. IsCut n ys count) behind cut) (subst (λ ys. count ≤ length ys) behind le)

pub ordered_from : (n : ℕ) (row : List Tag) (gone : ℕ) → IsOrdered (kept_of row gone) → IsOrdered (tags_from n (kept_of row gone))
ordered_from n row gone o = AllPairs-filter (λ t u. is_gt (tag_cmp t u) ≡ false) (λ t. nat_le n t.offset) (kept_of row gone) o

drop-insert : (row : List Tag) (gone p : ℕ) (t : Tag) → gone ≤ length row → drop gone (insert row (gone + p) t) ≡ insert (drop gone row) p t
drop-insert row zero p t le = let e : 0 + p ≡ p = omega arith in ap (λ n. insert row n t) e
drop-insert [] (suc gone) p t le = absurd (omega (arith, le))
drop-insert (x ∷ row) (suc gone) p t le =
    let e : suc gone + p ≡ suc (gone + p) = omega arith in
    ap (λ n. drop (suc gone) (insert (x ∷ row) n t)) e ∙ drop-insert row gone p t (omega (arith, le))

-- one more tag behind those that are gone
pub one_more : (row : List Tag) (gone p : ℕ) (t : Tag) → gone ≤ length row → kept_of (insert row (gone + p) t) gone ≡ insert (kept_of row gone) p (tag_of t)
one_more row gone p t le = ap (map tag_of) (drop-insert row gone p t le) ∙ map_insert (drop gone row) p t

-- one more tag behind all
pub one_behind : (row : List Tag) (gone : ℕ) (t : Tag) → gone ≤ length row → kept_of (row ++ t ∷ []) gone ≡ kept_of row gone ++ tag_of t ∷ []
one_behind row zero t le = map-append tag_of row (t ∷ [])
one_behind [] (suc gone) t le = absurd (omega (arith, le))
one_behind (x ∷ row) (suc gone) t le = one_behind row gone t (omega (arith, le))
