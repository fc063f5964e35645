use Rattle.std.proofs.Common.{w64}
use Rattle.std.proofs.lemmas.Int.{to_z-of_z}
use Rattle.std.proofs.lemmas.List.Elements.{All-map}
use Rattle.stream_model.specs.Numbers.{IsItem}
use Rattle.fir_blocks.proofs.Products.{dot_near}
use Rattle.fir_blocks.proofs.tap_lane.output.Goals as goal

pub rounded-requires-clause-sum : goal.rounded-requires-clause-sum
rounded-requires-clause-sum g c =
    rw (to_z-of_z w64 c.dot.result (record { sfits = c.dot.type_inv }), c.dot.ensures)
    (dot_near g.T.Number.kind g.T.Number.number c.args.taps.now c.args.items.now c.are_in_range.ensures
    (All-map (IsItem g.T.Number.kind) g.T.Number.number c.args.items.now c.are_in_range-2.ensures) c.requires.most)
