use Rattle.std.proofs.Common.{◌∙◌, ◌++◌, ◌*ℤ◌, map, length, ap}
use Rattle.std.proofs.lemmas.List.{length-map}
use Rattle.stream_model.specs.Lists.{item, listed}
use Rattle.stream_model.specs.Numbers.{wrap}
use Rattle.math_blocks.specs.Differences.{negative_is}
use Rattle.math_blocks.proofs.sub.DifferenceJoins.append_alone.Goals as goal

pub returns-clause-items : goal.returns-clause-items
returns-clause-items g c =
    let number = g.T.Number.number in
    let t = g.T.Number.kind in
    let xs = map number c.args.items.now in
    c.append_mul_wrap.ensures.items
    ∙ ap (λ ys. map number c.args.out.now.items ++ ys)
    (ap (λ by. listed (length xs) (λ k. wrap t (item xs k *ℤ by))) c.wrap.ensures
    ∙ (λ i. listed (length-map c.args.items.now number i) (λ k. negative_is t (item xs k) i)))
