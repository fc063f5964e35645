-- The tags that are still wanted, after more tags and after readers have gone on.
use Rattle.std.proofs.Common.{◌≡◌, ℕ, ◌≤◌, ◌∙◌, ap, sym, refl, arith, List, [], ◌∷◌, Option, Some, None, All, IfSome}
use Rattle.std.specs.Option.{option_map_or}
use Rattle.std.proofs.lemmas.List.Elements.{All-head, All-tail, All-weaker}
use Rattle.stream_model.specs.Tags.{Tag, insert_tag, tags_within}
use Rattle.tags.specs.TagList.{tags_from, insert_tags}
use Rattle.tags.proofs.Kept.{tags_from-insert, tags_from-twice, tags_within-from}
use Rattle.ring_readers.proofs.SlowestReader.{AtMost}
use Rattle.buffers.proofs.Readers.{NoLess}

-- the tags from a place on, none where there is no place
abbrev pub from_place : Option ℕ → List Tag → List Tag
from_place slowest ts = option_map_or (λ place. tags_from place ts) slowest []

-- what was not wanted before is not wanted after
pub from_place-twice : (before after : Option ℕ) → NoLess before after → (ts : List Tag) → from_place after (from_place before ts) ≡ from_place after ts
from_place-twice before None h ts = refl
from_place-twice before (Some q) h ts = let found = h q refl in rw (found.is) (tags_from-twice found.place q ts found.le)

pub from_place-same : (o : Option ℕ) (ts : List Tag) → from_place o (from_place o ts) ≡ from_place o ts
from_place-same None ts = refl
from_place-same (Some p) ts = tags_from-twice p p ts (omega arith)

-- tags at or behind a place are among those from it on
pub tags_from-insert_tags : (p : ℕ) (more ts : List Tag) → All (λ t. p ≤ t.offset) more → tags_from p (insert_tags more ts) ≡ insert_tags more (tags_from p ts)
tags_from-insert_tags p [] ts all = refl
tags_from-insert_tags p (t ∷ more) ts all =
    tags_from-insert_tags p more (insert_tag t ts) (All-tail (λ t. p ≤ t.offset) t more all) ∙ ap (insert_tags more) (tags_from-insert p t ts (All-head (λ t. p ≤ t.offset) t more all))

-- tags that go in where a reader is left are those that are wanted of all
pub pushed_tags : (slowest : Option ℕ) (written : ℕ) (more ts whole : List Tag) → IfSome slowest (λ place. place ≤ written) → All (λ t. written ≤ t.offset) more
    → ts ≡ from_place slowest whole → option_map_or (λ _. insert_tags more ts) slowest ts ≡ from_place slowest (insert_tags more whole)
pushed_tags None written more ts whole reached ahead k = k
pushed_tags (Some p) written more ts whole reached ahead k =
    let le : p ≤ written = reached in
    ap (insert_tags more) k ∙ sym (tags_from-insert_tags p more whole (All-weaker (λ t. written ≤ t.offset) (λ t. p ≤ t.offset) (λ t h. omega (arith, le, h)) more ahead))

-- a part at or behind the slowest reader is the same of what is wanted
pub within_wanted : (slowest : Option ℕ) (from to : ℕ) (ts : List Tag) → AtMost slowest from → tags_within from to (from_place slowest ts) ≡ tags_within from to ts
within_wanted None from to ts le = absurd le
within_wanted (Some p) from to ts le = tags_within-from p from to ts le
