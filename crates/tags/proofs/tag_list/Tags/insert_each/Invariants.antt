use Rattle.std.proofs.Common.{◌≡◌, ◌+◌, map, drop}
use Rattle.items.specs.Tags.{tag_of}
use Rattle.tags.specs.TagList.{insert_tags}
use Rattle.tags.proofs.tag_list.Tags.insert_each.Given as goal

abbrev pub invariant-loop-tag : goal.invariant-loop-tag
invariant-loop-tag l =
    (insert_tags (map tag_of (drop l.tag-index l.more)) l.self.tags ≡ insert_tags (map tag_of l.more) l.fn.self.tags)
    × (l.self.spare + l.tag-index ≡ l.fn.self.spare)
