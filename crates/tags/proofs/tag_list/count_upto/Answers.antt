use Rattle.std.proofs.Common.{rules}
use Rattle.std.proofs.lemmas.List.Sorted.{IsPartitionPoint-from_clause}
use Rattle.std.specs.Ordering.{is_le}
use Rattle.stream_model.specs.Tags.{tag_cmp}
use Rattle.items.specs.Tags.{tag_of}
use Rattle.tags.proofs.Sorted.{upto_come_first}
use Rattle.tags.proofs.tag_list.count_upto.Goals as goal

pub returns-clause-point : goal.returns-clause-point
returns-clause-point c =
    IsPartitionPoint-from_clause (λ u. is_le (tag_cmp (tag_of u) (tag_of c.args.tag.now))) c.args.tags.now c.partition_point.result c.partition_point.ensures.partitioned
    (upto_come_first c.args.tag.now c.args.tags.now c.requires) (λ a r f called. search rules)
