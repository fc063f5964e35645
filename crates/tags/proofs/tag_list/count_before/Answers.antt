use Rattle.std.proofs.Common.{rules, arith, ap, nat_lt}
use Rattle.std.proofs.lemmas.List.Sorted.{IsPartitionPoint-from_clause, IsPartitionedBy-ltb}
use Rattle.tags.proofs.Cuts.{no_cut}
use Rattle.tags.proofs.Order.{stored_offsets_rise}
use Rattle.tags.proofs.tag_list.count_before.Goals as goal

pub returns-in-Some-clause-point : goal.returns-in-Some-clause-point
returns-in-Some-clause-point c =
    IsPartitionPoint-from_clause (λ t. nat_lt t.offset c.args.offset) c.args.tags.now c.partition_point.result c.partition_point.ensures.partitioned
    (IsPartitionedBy-ltb (λ t. t.offset) c.args.tags.now c.args.offset (stored_offsets_rise c.args.tags.now c.requires)) (λ a r f called. search rules)

pub returns-in_default-clause-point : goal.returns-in_default-clause-point
returns-in_default-clause-point c =
    no_cut c.args.offset c.args.tags.now c.requires
    (λ d. let first = ap (λ t. t.offset) (c.in-Some.ensures.item.3.1 d) in omega (arith, first, c.if-first-offset.false))
