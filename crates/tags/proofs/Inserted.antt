-- Several tags that go into a list in order.
use Rattle.std.proofs.Common.{◌≡◌, ◌+◌, arith, List, [], ◌∷◌, length}
use Rattle.stream_model.specs.Tags.{Tag, insert_tag}
use Rattle.tags.specs.TagList.{insert_tags}
use Rattle.tags.proofs.Kept.{length-insert_tag}

pub length-insert_tags : (more ts : List Tag) → length (insert_tags more ts) ≡ length more + length ts
length-insert_tags [] ts = omega arith
length-insert_tags (t ∷ more) ts = omega (arith, length-insert_tags more (insert_tag t ts), length-insert_tag t ts)
