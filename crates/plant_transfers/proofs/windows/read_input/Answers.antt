use Rattle.std.proofs.Common.{◌∙◌, sym, ap, arith, length}
use Rattle.plant_transfers.proofs.windows.read_input.Goals as goal

pub returns-clause-keeps : goal.returns-clause-keeps
returns-clause-keeps g c typed =
    let item = c.item_type.ensures ∙ ap (λ b. b.item) c.input_of-reader.ensures.buffer ∙ (c.requires.reads.inputs c.args.port c.requires.port).type in
    let kept = c.make_ready.ensures.keeps (typed ∙ sym item) in
    let none = ap length c.in_ok-make_ready.ensures.ready.empty in
    record { type = c.window.ensures.same_type ∙ kept.type; room = omega (arith, kept.room, none, c.window.ensures.len, c.window.ensures.spare) }
