use Rattle.std.proofs.Common.{◌≡◌, ◌++◌, ap, sym, ◌∙◌, take, length, min, List, arith}
use Rattle.std.proofs.lemmas.List.{take_min, drop_all, append-nil}
use Rattle.toml.specs.View.{items_view}
use Rattle.kind_schema.specs.Tables.{numbers_of}
use Rattle.kind_schema.proofs.Values.{numbers_of-take}
use Rattle.kind_schema.proofs.table.first_numbers.Goals as goal

pub returns : goal.returns
returns g c =
    let ended = drop_all c.loop-value.value-index (take c.min.result c.args.values.now) c.loop-value-test.false in
    let all : c.loop-value.numbers.items ≡ numbers_of (items_view (take c.min.result c.args.values.now)) =
    sym (append-nil c.loop-value.numbers.items) ∙ ap (λ vs. c.loop-value.numbers.items ++ numbers_of (items_view vs)) (sym ended) ∙ c.loop-value.invariant.0 in
    let cut : take c.min.result c.args.values.now ≡ take g.row.COUNT c.args.values.now = rw c.min.ensures (cut_min c.args.values.now) in
    all ∙ ap (λ vs. numbers_of (items_view vs)) cut ∙ numbers_of-take g.row.COUNT c.args.values.now
  where
    cut_min : {X : Type 0} (xs : List X) → take (min (length xs) g.row.COUNT) xs ≡ take g.row.COUNT xs
    cut_min xs = let turned : min (length xs) g.row.COUNT ≡ min g.row.COUNT (length xs) = omega arith in ap (λ k. take k xs) turned ∙ take_min g.row.COUNT xs
