use Rattle.std.proofs.Common.{◌≡◌, ◌+◌, ◌++◌, take, vec_len, vec_capacity}
use Rattle.tags.proofs.tag_list.append.Given as goal

abbrev pub invariant-loop-tag : goal.invariant-loop-tag
invariant-loop-tag l =
    (l.row.items ≡ l.fn.row.items ++ take l.tag-index l.more) × (vec_len l.row ≡ vec_len l.fn.row + l.tag-index) × (vec_capacity l.row ≡ vec_capacity l.fn.row)
