use Rattle.lane_filters.proofs.Taps.{product_fits, sum_fits, sum_is, sum_within}
use Rattle.lane_filters.proofs.sums.with_product.Goals as goal

pub overflow_mul-result : goal.overflow_mul-result
overflow_mul-result g c =
    product_fits g.T.Number.kind c.args.sum c.args.tap (g.T.Number.number c.args.item) c.from.result c.widen.result c.ranges.sum c.requires c.ranges.tap c.from.ensures
    (record { sfits = c.from.type_inv }) c.widen.ensures.value (record { sfits = c.widen.type_inv }) c.widen.ensures.in_range

pub overflow_add-result : goal.overflow_add-result
overflow_add-result g c =
    sum_fits g.T.Number.kind c.args.sum c.args.tap (g.T.Number.number c.args.item) c.from.result c.widen.result c.ranges.sum c.requires c.ranges.tap c.from.ensures
    (record { sfits = c.from.type_inv }) c.widen.ensures.value (record { sfits = c.widen.type_inv }) c.widen.ensures.in_range

pub returns-clause-value : goal.returns-clause-value
returns-clause-value g c =
    sum_is g.T.Number.kind c.args.sum c.args.tap (g.T.Number.number c.args.item) c.from.result c.widen.result c.ranges.sum c.requires c.ranges.tap c.from.ensures
    (record { sfits = c.from.type_inv }) c.widen.ensures.value (record { sfits = c.widen.type_inv }) c.widen.ensures.in_range

pub returns-clause-within : goal.returns-clause-within
returns-clause-within g c =
    sum_within g.T.Number.kind c.args.sum c.args.tap (g.T.Number.number c.args.item) c.from.result c.widen.result c.ranges.sum c.requires c.ranges.tap c.from.ensures
    (record { sfits = c.from.type_inv }) c.widen.ensures.value (record { sfits = c.widen.type_inv }) c.widen.ensures.in_range
