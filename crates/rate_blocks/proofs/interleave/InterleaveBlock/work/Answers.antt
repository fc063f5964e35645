use Rattle.std.proofs.Common.{◌≡◌, ◌*◌, length, map, arith, ap, sym, ◌∙◌}
use Rattle.std.proofs.lemmas.List.{length-map}
use Rattle.items.specs.Items.{numbers_of}
use Rattle.settings.specs.Values.{held_of}
use Rattle.block_trait.proofs.Outputs.{one_worked}
use Rattle.rate_blocks.specs.Mux.{interleave_of}
use Rattle.rate_blocks.proofs.Interleaved.{all-interleaved, interleave-given}
use Rattle.rate_blocks.proofs.interleave.InterleaveBlock.work.Goals as goal

pub append_inputs-requires-clause-can : goal.append_inputs-requires-clause-can
append_inputs-requires-clause-can c =
    let b = c.args.self.now in
    let can = c.requires in
    let ports : length (map numbers_of c.args.windows.now) ≡ b.ports.value = omega (arith, length-map c.args.windows.now numbers_of, can.inputs_least, can.inputs_most) in (
      ap (λ n. n * c.args.count) (sym ports),
      all-interleaved b.item b.ports.value b.ports.some can.settings can.streams c.args._first c.args.count c.args._state (map held_of c.args._held.now) (map numbers_of c.args.windows.now) can.fed,
    )

pub returns-clause-items : goal.returns-clause-items
returns-clause-items c =
    let b = c.args.self.now in
    let can = c.requires in
    one_worked (interleave_of b) c.args._first c.args.count c.args._state c.args.windows.now c.args._held.now c.args.out.now c.index-out-0.result c.append_inputs.new.out
    (omega (arith, can.outputs_least, can.outputs_most)) c.append_inputs.ensures.item_type c.append_inputs.ensures.room (λ ts xs fed.
    c.append_inputs.ensures.numbers
    ∙ interleave-given b.item b.ports.value b.ports.some ts xs c.args._first c.args.count c.args._state (map held_of c.args._held.now) (map numbers_of c.args.windows.now) fed
    (omega (arith, can.inputs_least, can.inputs_most, length-map c.args.windows.now numbers_of)))
