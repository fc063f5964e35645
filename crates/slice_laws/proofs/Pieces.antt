-- Pieces of a stream, and of its tags, go on with it.
use Rattle.std.proofs.Common.{◌≡◌, ℕ, ◌+◌, ◌-◌, ◌<◌, ◌≤◌, Bool, true, false, List, [], ◌∷◌, ◌++◌, length, drop, refl, arith, ap, ap₂, sym, ◌∙◌, subst, All, ℤ, inl, inr}
use Rattle.std.specs.Prelude.{◌&&◌, nat_le, nat_lt}
use Rattle.std.proofs.Math.Seq.{drop-append_seam}
use Rattle.std.proofs.lemmas.Bool.{cases_lt}
use Rattle.std.proofs.lemmas.List.{drop-drop}
use Rattle.std.proofs.lemmas.List.Elements.{All-head, All-tail}
use Rattle.std.specs.Ordering.{is_gt}
use Rattle.stream_model.specs.Lists.{IsBeginning}
use Rattle.stream_model.specs.Tags.{Tag, tag_cmp, IsOrdered, tags_within}
use Rattle.stream_model.specs.Network.{Network, Handed, node_at, role_at, handed_at, is_source, items_of, tags_of, chosen}
use Rattle.stream_model.proofs.TagOrder.{offset_upto, later, rest_ordered}
use Rattle.stream_laws.specs.CanRun.{CanRun}
use Rattle.stream_laws.specs.Tags.{tags_in}
use Rattle.stream_laws.proofs.InTime.{within-on, within-behind}
use Rattle.stream_laws.proofs.Later.{feeding_appends}
use Rattle.stream_laws.proofs.Past.{tags-source, tags-worker}
use Rattle.stream_laws.proofs.Sorting.{filter-sorted, ordered_sorted}
use Rattle.slice_laws.specs.Slices.{settled, given_in}
use Rattle.slice_laws.specs.Tags.{tags_from_item, ahead_by, both_right}
use Rattle.slice_laws.specs.Pieces.{ResumedPiecesGoOn, ResumedTagsGoOn, PiecesGoOn, TagsGoOn}
use Rattle.slice_laws.proofs.Streams.{streams_resume, resumes_itself}
use Rattle.slice_laws.proofs.TagLists.{from-on, from-before, agree-later}
use Rattle.slice_laws.proofs.TagStreams.{tags_resume}

-- what is left of lists of which a shorter rest is one
pub drop-more : (c r x : ℕ) (ws zs : List ℤ) → r ≤ x → drop (c + r) ws ≡ drop r zs → drop (c + x) ws ≡ drop x zs
drop-more c r x ws zs le same =
    let e : c + x ≡ c + r + (x - r) = omega arith in
    let d : r + (x - r) ≡ x = omega arith in
    ap (λ n. drop n ws) e ∙ sym (drop-drop (x - r) (c + r) ws) ∙ ap (drop (x - r)) same ∙ drop-drop (x - r) r zs ∙ ap (λ n. drop n zs) d

goes_on : (c r x : ℕ) (us ws zs : List ℤ) → IsBeginning us ws → r ≤ x → c + x ≡ length us → drop (c + r) ws ≡ drop r zs → ws ≡ us ++ drop x zs
goes_on c r x us ws zs begins le there same =
    let more : drop (c + x) ws ≡ drop x zs = drop-more c r x ws zs le same in
    let left : drop (length us) ws ≡ begins.rest = ap (drop (length us)) begins.is ∙ drop-append_seam us begins.rest in
    let cut : drop (c + x) ws ≡ drop (length us) ws = ap (λ n. drop n ws) there in
    begins.is ∙ ap (λ l. us ++ l) (sym left ∙ sym cut ∙ more)

pub resumed_pieces_go_on : ResumedPiecesGoOn
resumed_pieces_go_on net resumed can q balanced f k is before after rest more left b p x in' port le there =
    goes_on (given_in net q k b) (settled net f b) x (items_of net before b p) (items_of net after b p) (items_of resumed rest b p)
    (feeding_appends net can before after more.more more.settings more.tags b p in' port).items le there
    (streams_resume net resumed can q balanced f k is after rest left b p in' port)

pub pieces_go_on : PiecesGoOn
pieces_go_on net can q balanced f are k before after rest more left = resumed_pieces_go_on net net can q balanced f k (resumes_itself net can q k f are) before after rest more left

-- behind a tag at or behind an item none lies before it
none-within : (to : ℕ) (t : Tag) (ts : List Tag) → to ≤ t.offset → All (λ v. is_gt (tag_cmp t v) ≡ false) ts → tags_within 0 to ts ≡ []
none-within to t [] le all = refl
none-within to t (u ∷ us) le all =
    let up = offset_upto t u (All-head (λ v. is_gt (tag_cmp t v) ≡ false) u us all) in
    within-behind 0 to u us (omega arith) ∙ none-within to t us le (All-tail (λ v. is_gt (tag_cmp t v) ≡ false) u us all)

all-from : (to : ℕ) (t : Tag) (ts : List Tag) → to ≤ t.offset → All (λ v. is_gt (tag_cmp t v) ≡ false) ts → tags_from_item to ts ≡ ts
all-from to t [] le all = refl
all-from to t (u ∷ us) le all =
    let up = offset_upto t u (All-head (λ v. is_gt (tag_cmp t v) ≡ false) u us all) in
    from-on to u us (omega arith) ∙ ap (λ vs. u ∷ vs) (all-from to t us le (All-tail (λ v. is_gt (tag_cmp t v) ≡ false) u us all))

-- tags in order are those before an item and those from it on
pub parted : (to : ℕ) (ts : List Tag) → IsOrdered ts → ts ≡ tags_within 0 to ts ++ tags_from_item to ts
parted to [] ordered = refl
parted to (t ∷ ts) ordered =
    elim (cases_lt t.offset to) [
      | inl lt ↦ ap (λ us. t ∷ us) (parted to ts (rest_ordered t ts ordered)) ∙ ap₂ ◌++◌ (sym (within-on 0 to t ts (omega arith) lt)) (sym (from-before to t ts lt))
      | inr le ↦ (let all = later t ts ordered in
          sym (ap₂ ◌++◌ (within-behind 0 to t ts le ∙ none-within to t ts le all) (from-on to t ts le ∙ ap (λ us. t ∷ us) (all-from to t ts le all))))
    ]

-- the tags of a stream are in order
pub ordered_at : (net : Network) → CanRun net → (hs : List Handed) (b p : ℕ) → b < length net.nodes → (s : Bool) → is_source (role_at net b) ≡ s → IsOrdered (tags_of net hs b p)
ordered_at net can hs b p in' true e = subst IsOrdered (sym (tags-source net can hs b p in' e)) (ordered_sorted (handed_at hs b).tags)
ordered_at net can hs b p in' false e =
    let some = chosen (node_at net b).policy (node_at net b) p 0 (tags_in net hs b) in
    let to = length (items_of net hs b p) in
    subst IsOrdered (sym (tags-worker net can hs b p in' e ∙ filter-sorted (λ t. nat_le 0 t.offset && nat_lt t.offset to) some)) (ordered_sorted (tags_within 0 to some))

pub resumed_tags_go_on : ResumedTagsGoOn
resumed_tags_go_on net resumed can q balanced f g placed k is before after rest more left marks b p x in' port le there =
    let grows = feeding_appends net can before after more.more more.settings more.tags b p in' port in
    let from : tags_from_item (given_in net q k b + x) (tags_of net after b p) ≡ ahead_by (given_in net q k b) (tags_from_item x (tags_of resumed rest b p)) =
    agree-later (given_in net q k b) (both_right net f g b) x (tags_of net after b p) (tags_of resumed rest b p) le
    (tags_resume net resumed can q balanced f g placed k is after rest left marks b p in' port) in
    parted (length (items_of net before b p)) (tags_of net after b p) (ordered_at net can after b p in' (is_source (role_at net b)) refl)
    ∙ ap₂ ◌++◌ grows.tags (ap (λ to. tags_from_item to (tags_of net after b p)) (sym there) ∙ from)

pub tags_go_on : TagsGoOn
tags_go_on net can q balanced f g are placed k before after rest more left marks =
    resumed_tags_go_on net net can q balanced f g placed k (resumes_itself net can q k f are) before after rest more left marks
