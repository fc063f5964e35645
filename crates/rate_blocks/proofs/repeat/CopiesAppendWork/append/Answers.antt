use Rattle.std.proofs.Common.{◌≡◌, ℕ, ◌*◌, ◌/◌, ◌++◌, ◌∙◌, length, map, ap, sym}
use Rattle.std.proofs.lemmas.List.{length-map}
use Rattle.stream_model.specs.Lists.{item, listed}
use Rattle.rate_blocks.proofs.repeat.CopiesAppendWork.append.Goals as goal

pub returns-clause-items : goal.returns-clause-items
returns-clause-items g c =
    let number = g.T.Number.number in
    let n = c.args.self.now.n in
    let xs = map number c.args.items.now in
    let count : n * length c.args.items.now ≡ c.args._count = ap (λ m. n * m) (sym (length-map c.args.items.now number)) ∙ sym c.requires.can in
    c.repeat_each.ensures.items ∙ ap (λ m. map number c.args.out.now.items ++ listed m (λ (k : ℕ). item xs (k / n))) count
