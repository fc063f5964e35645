-- Slices of whole iterations join.
use Rattle.std.proofs.Common.{◌≡◌, ℕ, ◌+◌, ◌<◌, ◌≤◌, Bool, true, false, List, [], ◌∷◌, ◌++◌, length, drop, refl, arith, ap, ap₂, sym, ◌∙◌, ℤ, inl, inr, ◌⊎◌}
use Rattle.std.proofs.Math.Seq.{drop-append_seam}
use Rattle.std.proofs.lemmas.Bool.{cases_lt}
use Rattle.std.proofs.lemmas.List.{length-append, length-drop}
use Rattle.stream_model.specs.Lists.{IsBeginning}
use Rattle.stream_model.specs.Tags.{Tag, sorted_tags, tags_within}
use Rattle.stream_model.specs.Network.{Network, Handed, node_at, role_at, is_source, given_by, items_of, tags_of, chosen}
use Rattle.graph_model.specs.Rates.{CanCount}
use Rattle.stream_laws.specs.CanRun.{CanRun}
use Rattle.stream_laws.specs.Tags.{tags_in}
use Rattle.stream_laws.proofs.InTime.{within-on, within-behind}
use Rattle.stream_laws.proofs.Later.{items-length, feeding_appends}
use Rattle.stream_laws.proofs.Past.{tags-worker}
use Rattle.slice_laws.specs.Slices.{settled, given_in}
use Rattle.slice_laws.specs.Tags.{tags_from_item, ahead_by, both_right}
use Rattle.slice_laws.specs.Counting.{HasIterations, given_after}
use Rattle.slice_laws.specs.Joining.{SlicesJoin, SliceTagsJoin}
use Rattle.slice_laws.proofs.Streams.{streams_resume}
use Rattle.slice_laws.proofs.TagLists.{from-before, agree-later}
use Rattle.slice_laws.proofs.TagStreams.{tags_resume}
use Rattle.slice_laws.proofs.Pieces.{drop-more, parted, ordered_at}
use Rattle.slice_laws.proofs.Counting.{source_most, whole_or_all, few_items, given_apart}

empty : (xs : List ℤ) → length xs ≡ 0 → xs ≡ []
empty [] none = refl
empty (x ∷ xs) none = absurd (omega arith)

-- a list goes on with what is left of it, where it has so many items by then or goes on with nothing
joined : (n : ℕ) (us ws zs : List ℤ) → IsBeginning us ws → length us ≤ n → (length us ≡ n) ⊎ (length ws ≤ length us) → drop n ws ≡ zs → ws ≡ us ++ zs
joined n us ws zs begins few (inl there) same =
    let left : drop (length us) ws ≡ begins.rest = ap (drop (length us)) begins.is ∙ drop-append_seam us begins.rest in
    begins.is ∙ ap (λ l. us ++ l) (sym left ∙ ap (λ m. drop m ws) there ∙ same)
joined n us ws zs begins few (inr all) same =
    let l : length ws ≡ length us + length begins.rest = ap length begins.is ∙ length-append us begins.rest in
    let d = length-drop n ws in
    let z : length (drop n ws) ≡ length zs = ap length same in
    begins.is ∙ ap (λ l. us ++ l) (empty begins.rest (omega arith) ∙ sym (empty zs (omega arith)))

-- no tag lies behind the end of a stream that a block gives
none-behind : (x to : ℕ) (ts : List Tag) → to ≤ x → tags_from_item x (tags_within 0 to ts) ≡ []
none-behind x to [] le = refl
none-behind x to (t ∷ ts) le =
    elim (cases_lt t.offset to) [
      | inl lt ↦ ap (tags_from_item x) (within-on 0 to t ts (omega arith) lt) ∙ from-before x t (tags_within 0 to ts) (omega arith) ∙ none-behind x to ts le
      | inr ge ↦ ap (tags_from_item x) (within-behind 0 to t ts ge) ∙ none-behind x to ts le
    ]

module _ (net : Network) (can : CanRun net) (can_count : CanCount net) (q : List ℕ) (j : ℕ) (before after : List Handed) (has : HasIterations net q j before) (b p : ℕ) (in' : b < length net.nodes) where
  -- behind the end of what was given before, and behind the counted end, lie the same tags
  same_behind : (s : Bool) → is_source (role_at net b) ≡ s →
      tags_from_item (length (items_of net before b p)) (tags_of net after b p) ≡ tags_from_item (given_after net q j b) (tags_of net after b p)
  same_behind true e =
      ap (λ x. tags_from_item x (tags_of net after b p)) (items-length net can before b p in' ∙ ap (given_by (node_at net b)) (source_most net can can_count q j before has b in' e))
  same_behind false e =
      elim (whole_or_all net can can_count q j before has after b p in') [
        | inl there ↦ ap (λ x. tags_from_item x (tags_of net after b p)) there
        | inr all ↦ (let few = few_items net can can_count q j before has b p in' in
            none (length (items_of net before b p)) all ∙ sym (none (given_after net q j b) (omega arith)))
      ]
    where
      none : (x : ℕ) → length (items_of net after b p) ≤ x → tags_from_item x (tags_of net after b p) ≡ []
      none x le =
          ap (tags_from_item x) (tags-worker net can after b p in' e)
          ∙ none-behind x (length (items_of net after b p)) (sorted_tags (chosen (node_at net b).policy (node_at net b) p 0 (tags_in net after b))) le

pub slices_join : SlicesJoin
slices_join net resumed can can_count q balanced f k w is past before after rest has more left b p in' port enough =
    joined (given_after net q (k + w) b) (items_of net before b p) (items_of net after b p) (drop (given_after net q w b) (items_of resumed rest b p))
    (feeding_appends net can before after more.more more.settings more.tags b p in' port).items
    (few_items net can can_count q (k + w) before has b p in')
    (whole_or_all net can can_count q (k + w) before has after b p in')
    (ap (λ n. drop n (items_of net after b p)) (sym (given_apart net can can_count q balanced w past b in' k))
    ∙ drop-more (given_in net q k b) (settled net f b) (given_after net q w b) (items_of net after b p) (items_of resumed rest b p) enough
    (streams_resume net resumed can q balanced f k is after rest left b p in' port))

pub slice_tags_join : SliceTagsJoin
slice_tags_join net resumed can can_count q balanced f g placed k w is past before after rest has more left marks b p in' port enough =
    let grows = feeding_appends net can before after more.more more.settings more.tags b p in' port in
    let from : tags_from_item (given_in net q k b + given_after net q w b) (tags_of net after b p) ≡ ahead_by (given_in net q k b) (tags_from_item (given_after net q w b) (tags_of resumed rest b p)) =
    agree-later (given_in net q k b) (both_right net f g b) (given_after net q w b) (tags_of net after b p) (tags_of resumed rest b p) enough
    (tags_resume net resumed can q balanced f g placed k is after rest left marks b p in' port) in
    parted (length (items_of net before b p)) (tags_of net after b p) (ordered_at net can after b p in' (is_source (role_at net b)) refl)
    ∙ ap₂ ◌++◌ grows.tags
    (same_behind net can can_count q (k + w) before after has b p in' (is_source (role_at net b)) refl
    ∙ ap (λ n. tags_from_item n (tags_of net after b p)) (sym (given_apart net can can_count q balanced w past b in' k))
    ∙ from)
