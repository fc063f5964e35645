-- What a stretch of firings adds: items behind items, and tags behind tags.
use Rattle.std.proofs.Common.{◌≡◌, ℕ, ℤ, pos, ◌+◌, ◌-◌, ◌<◌, ◌≤◌, List, [], ◌∷◌, ◌++◌, length, map, take, drop, All, Option, Some, None, refl, arith, ap, sym, ◌∙◌, subst, inl, inr, length-append, length-drop}
use Rattle.std.specs.Option.{IfSome}
use Rattle.std.specs.Prelude.{nat_le, nat_lt, ◌&&◌}
use Rattle.std.proofs.lemmas.List.{drop-append-le, drop-drop, length-take-le, same_lists, get_or-take, get_or-drop, get_or_default}
use Rattle.std.proofs.lemmas.List.FromFn.{length-map-range_with_len, get_or-map-range_with_len}
use Rattle.std.proofs.lemmas.List.Elements.{All-weaker}
use Rattle.circular_buffer.specs.Buffer.{keep_last}
use Rattle.stream_model.specs.Lists.{item, numbers_from}
use Rattle.stream_model.specs.Tags.{Tag, IsOrdered, insert_tag, sorted_tags, tags_within}
use Rattle.stream_model.proofs.TagOrder.{later, rest_ordered}
use Rattle.stream_laws.proofs.InTime.{within-joined}
use Rattle.std.proofs.lemmas.Bool.{cases_Bool}
use Rattle.stream_model.specs.Network.{Network, Handed, node_at, handed_at, role_at, is_source, items_of, tags_of, chosen}
use Rattle.stream_laws.specs.CanRun.{CanRun}
use Rattle.stream_laws.specs.Tags.{tags_in}
use Rattle.stream_laws.proofs.Past.{tags-source, tags-worker}
use Rattle.stream_laws.proofs.Sorting.{ordered_sorted, insert_front, filter-sorted, sorted-permutation}
use Rattle.tags.specs.TagList.{tags_from}
use Rattle.tags.proofs.Kept.{tags_from-twice}
use Rattle.tags.specs.TagList.{insert_tags}
use Rattle.buffers.proofs.Wanted.{from_place, tags_from-insert_tags}
use Rattle.plant_laws.proofs.Inserting.{inserted_sorted}

-- the last items of a list, from the last of its beginning
pub keep_last-append : (most : ℕ) (xs ys : List ℤ) → keep_last most (keep_last most xs ++ ys) ≡ keep_last most (xs ++ ys)
keep_last-append most xs ys =
    let gone : ℕ = length xs - most in
    let low : gone ≤ length xs = omega arith in
    let kept = length-drop gone xs in
    let long = length-append (drop gone xs) ys in
    let whole = length-append xs ys in
    let more : ℕ = length (drop gone xs ++ ys) - most in
    let at : gone + more ≡ length (xs ++ ys) - most = omega arith in
    ap (drop more) (sym (drop-append-le gone xs ys low)) ∙ drop-drop more gone (xs ++ ys) ∙ ap (λ n. drop n (xs ++ ys)) at

-- a part of a list, item by item
pub items_of_part : (xs : List ℤ) (k count : ℕ) → k + count ≤ length xs → map (item xs) (numbers_from k count) ≡ take count (drop k xs)
items_of_part xs k count there =
    let rest = length-drop k xs in
    let long : length (take count (drop k xs)) ≡ count = length-take-le count (drop k xs) (omega arith) in
    same_lists (map (item xs) (numbers_from k count)) (take count (drop k xs)) (length-map-range_with_len (item xs) k count ∙ sym long)
    (λ i d lt.
    let low : i < count = (let l = length-map-range_with_len (item xs) k count in omega arith) in
    get_or-map-range_with_len (item xs) k count i (k + i) d low refl ∙ get_or_default xs (k + i) (pos 0) d (omega arith) ∙ sym (get_or-take count (drop k xs) i d low ∙ get_or-drop k xs i d))

-- tags in order are sorted
pub sorted_ordered : (ts : List Tag) → IsOrdered ts → sorted_tags ts ≡ ts
sorted_ordered [] o = refl
sorted_ordered (t ∷ ts) o = ap (insert_tag t) (sorted_ordered ts (rest_ordered t ts o)) ∙ insert_front t ts (later t ts o)

-- tags of a part, put into those before it
pub within_more : (k next : ℕ) (ts : List Tag) → IsOrdered ts → k ≤ next → insert_tags (tags_within k next ts) (tags_within 0 k ts) ≡ tags_within 0 next ts
within_more k next ts o le =
    let same = sorted_ordered ts o in
    let before = tags_within 0 k ts in
    let here = tags_within k next ts in
    let sorted : tags_within 0 k ts ≡ sorted_tags (tags_within 0 k ts) = sym (ap (tags_within 0 k) same) ∙ filter-sorted (λ t. nat_le 0 t.offset && nat_lt t.offset k) ts in
    ap (insert_tags here) sorted
    ∙ inserted_sorted here before
    ∙ sorted-permutation (tags_within 0 next ts) (here ++ before) (within-joined 0 k next ts (omega arith) le)
    ∙ sym (filter-sorted (λ t. nat_le 0 t.offset && nat_lt t.offset next) ts)
    ∙ ap (tags_within 0 next) same

-- tags behind a place go in the same among those that are wanted and among all
pub wanted_more : (slowest : Option ℕ) (written : ℕ) (more whole : List Tag) → IfSome slowest (λ place. place ≤ written) → All (λ t. written ≤ t.offset) more →
    from_place slowest (insert_tags more (from_place slowest whole)) ≡ from_place slowest (insert_tags more whole)
wanted_more None written more whole reached ahead = refl
wanted_more (Some p) written more whole reached ahead =
    let le : p ≤ written = reached in
    let behind : All (λ t. p ≤ t.offset) more = All-weaker (λ t. written ≤ t.offset) (λ t. p ≤ t.offset) (λ t h. omega arith) more ahead in
    tags_from-insert_tags p more (tags_from p whole) behind ∙ ap (insert_tags more) (tags_from-twice p p whole (omega arith)) ∙ sym (tags_from-insert_tags p more whole behind)

-- the tags of an output are in order
pub ordered_tags : (net : Network) (can : CanRun net) (hs : List Handed) (b p : ℕ) → b < length net.nodes → IsOrdered (tags_of net hs b p)
ordered_tags net can hs b p in' =
    elim (cases_Bool (is_source (role_at net b))) [
      | inl e ↦ subst IsOrdered (sym (tags-source net can hs b p in' e)) (ordered_sorted (handed_at hs b).tags)
      | inr e ↦ (let brought = chosen (node_at net b).policy (node_at net b) p 0 (tags_in net hs b) in
          let count = length (items_of net hs b p) in
          subst IsOrdered (sym (tags-worker net can hs b p in' e ∙ filter-sorted (λ t. nat_le 0 t.offset && nat_lt t.offset count) brought)) (ordered_sorted (tags_within 0 count brought)))
    ]
