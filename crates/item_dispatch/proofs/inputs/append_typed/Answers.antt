use Rattle.std.proofs.Common.{◌++◌, length, map, subst, sym, ◌∙◌}
use Rattle.std.proofs.lemmas.List.{length-map}
use Rattle.items.specs.Items.{numbers_of}
use Rattle.item_dispatch.proofs.Told.{told}
use Rattle.item_dispatch.proofs.inputs.append_typed.Goals as goal

pub append-requires-clause-can : goal.append-requires-clause-can
append-requires-clause-can g c =
    let inputs = c.args.inputs.now in
    subst (λ xs. g.W.InputWork.can_make c.args.work.now g.T.Number.kind xs c.args.count)
    (sym (told (λ x. map g.T.Number.number x.now) c.typed_inputs-typed.result (map numbers_of inputs) (length inputs) 16 c.typed_inputs-typed.ensures (length-map inputs numbers_of) c.requires.few)) c.requires.can

pub returns-clause-items : goal.returns-clause-items
returns-clause-items g c =
    let inputs = c.args.inputs.now in
    c.append.ensures.items
    ∙ (λ i. c.requires.empty i ++ g.W.InputWork.makes c.args.work.now g.T.Number.kind
    (told (λ x. map g.T.Number.number x.now) c.typed_inputs-typed.result (map numbers_of inputs) (length inputs) 16 c.typed_inputs-typed.ensures (length-map inputs numbers_of) c.requires.few i) c.args.count)
