use Rattle.std.proofs.Common.{◌∙◌, sym, refl}
use Rattle.flowgraph.specs.Flowgraph.{net_of}
use Rattle.plant.proofs.Feeding.{are_items_pass, are_items_fail}
use Rattle.flow_runs.proofs.Desks.{fits, fits_given, fits_not}
use Rattle.flow_runs.proofs.live.desk_calls.items_for.Goals as goal

pub returns-in-Ok : goal.returns-in-Ok
returns-in-Ok g c =
    fits (net_of g.B.Block.meaning c.args.graph.now) c.args.source.0 c.args.numbers.now c.in_ok-item.item (sym c.source_type.ensures ∙ c.in_ok-item.was)
    (are_items_pass c.in_ok-item.item c.args.numbers.now c.in-Ok.ensures.in_range) _ _ c.in-Ok.ensures.item_type c.in-Ok.ensures.numbers

pub returns-in-Err-ItemRange : goal.returns-in-Err-ItemRange
returns-in-Err-ItemRange g c =
    fits_not (net_of g.B.Block.meaning c.args.graph.now) c.args.source.0 c.args.numbers.now c.in_ok-item.item (sym c.source_type.ensures ∙ c.in_ok-item.was)
    (are_items_fail c.in_ok-item.item c.args.numbers.now (c.in-Err-ItemRange.ensures.range.0 (rw c.in-Err-ItemRange.field-0-is refl)))

pub returns-in-Err-Memory : goal.returns-in-Err-Memory
returns-in-Err-Memory g c =
    fits_given (net_of g.B.Block.meaning c.args.graph.now) c.args.source.0 c.args.numbers.now c.in_ok-item.item (sym c.source_type.ensures ∙ c.in_ok-item.was)
    (are_items_pass c.in_ok-item.item c.args.numbers.now (c.in-Err-Memory.ensures.memory (rw c.in-Err-Memory.field-0-is refl)))
