use Rattle.std.proofs.Common.{◌*◌, map, arith, ap, ◌∙◌}
use Rattle.std.proofs.lemmas.List.{length-map}
use Rattle.items.specs.Items.{numbers_of}
use Rattle.settings.specs.Values.{held_of}
use Rattle.block_trait.proofs.Outputs.{one_worked}
use Rattle.rate_blocks.specs.Mux.{lengths_of, stream_mux_of}
use Rattle.rate_blocks.proofs.Muxed.{length-muxed, mux-given}
use Rattle.rate_blocks.proofs.stream_mux.StreamMuxBlock.work.Goals as goal

pub merge_turns-requires-clause-same_length : goal.merge_turns-requires-clause-same_length
merge_turns-requires-clause-same_length c p h =
    let b = c.args.self.now in
    let can = c.requires in
    length-muxed b.item (lengths_of b) b.is_mux can.settings can.streams c.args._first c.args.count c.args._state (map numbers_of c.args.windows.now)
    (map held_of c.args._held.now) can.fed p (omega (arith, length-map c.args.windows.now numbers_of, h))

pub returns-clause-items : goal.returns-clause-items
returns-clause-items c =
    let b = c.args.self.now in
    let can = c.requires in
    one_worked (stream_mux_of b) c.args._first c.args.count c.args._state c.args.windows.now c.args._held.now c.args.out.now c.index-out-0.result c.merge_turns.new.out
    (omega (arith, can.outputs_least, can.outputs_most)) c.merge_turns.ensures.item_type c.merge_turns.ensures.room (λ ts xs fed.
    c.merge_turns.ensures.numbers
    ∙ mux-given b.item (lengths_of b) b.is_mux ts xs c.args._first c.args.count c.args._state (map numbers_of c.args.windows.now) (map held_of c.args._held.now) fed _
    (omega (arith, can.inputs_least, can.inputs_most, length-map c.args.windows.now numbers_of)) (ap (λ s. s * c.args.count) c.all.ensures))
