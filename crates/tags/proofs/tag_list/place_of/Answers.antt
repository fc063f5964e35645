use Rattle.std.proofs.Common.{rules}
use Rattle.std.proofs.lemmas.List.Sorted.{IsPartitionPoint-from_clause}
use Rattle.std.specs.Ordering.{is_lt}
use Rattle.stream_model.specs.Tags.{tag_cmp}
use Rattle.items.specs.Tags.{tag_of}
use Rattle.tags.proofs.Order.{less_come_first, stored_insert}
use Rattle.tags.proofs.tag_list.place_of.Goals as goal

pub returns-clause-place : goal.returns-clause-place
returns-clause-place c =
    stored_insert c.args.tag.now c.args.tags.now c.partition_point.result c.partition_point.ensures.bound
    (IsPartitionPoint-from_clause (λ u. is_lt (tag_cmp (tag_of u) (tag_of c.args.tag.now))) c.args.tags.now c.partition_point.result c.partition_point.ensures.partitioned
    (less_come_first c.args.tag.now c.args.tags.now c.requires) (λ a r f called. search rules))
