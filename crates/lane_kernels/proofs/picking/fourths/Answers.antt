use Rattle.std.proofs.Common.{◌∙◌, ◌-◌, ◌/◌, ◌%◌, length, map, ap, sym, pos, arith}
use Rattle.std.proofs.lemmas.List.{length-take-le, map-append, take-map}
use Rattle.numbers.proofs.Mapped.{map_part}
use Rattle.lane_kernels.specs.Streams.{deinterleaved}
use Rattle.lane_kernels.proofs.Seconds.{twice_parts}
use Rattle.lane_kernels.proofs.picking.fourths.Goals as goal

pub slice_bounds-seconds-end : goal.slice_bounds-seconds-end
slice_bounds-seconds-end c = sym (length-take-le 32 c.args.items.now (omega arith))

pub seconds-first-requires-clause-two : goal.seconds-first-requires-clause-two
seconds-first-requires-clause-two c = length-take-le 32 c.args.items.now (omega arith)

pub returns : goal.returns
returns c =
    let items = c.args.items.now in
    let port = c.args.port in
    let xs = map pos items in
    let l = length items - 32 in
    c.every_second.ensures
    ∙ ap (deinterleaved 16 2 (port / 2)) (map-append pos c.seconds-first.result c.seconds-second.result)
    ∙ twice_parts 16 2 (port % 2) (port / 2) port 32 l xs (map pos c.seconds-first.result) (map pos c.seconds-second.result) (omega arith) (omega arith) (omega arith) (omega arith) (omega arith)
    (c.seconds-first.ensures ∙ ap (deinterleaved 16 2 (port % 2)) (sym (take-map pos 32 items)))
    (c.seconds-second.ensures ∙ ap (deinterleaved 16 2 (port % 2)) (map_part pos 32 l items))
