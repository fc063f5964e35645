use Rattle.std.proofs.Common.{rules, ◌≡◌, ◌∷◌, [], ◌++◌, ap, ◌∙◌, arith}
use Rattle.kind_schema.proofs.Values.{numbers_pass}
use Rattle.kind_schema.proofs.table.numbers_of.Goals as goal

pub loop-value-preserved : goal.loop-value-preserved
loop-value-preserved c =
    let more : c.push_reserved.new.self.items ≡ c.loop-value.numbers.items ++ c.number_of.result ∷ [] = search rules in (
      numbers_pass c.args.values.now c.loop-value.value-index c.value-item.result c.loop-value.numbers.items c.push_reserved.new.self.items c.loop-value-test.true c.value-item.is c.loop-value.invariant.0
          (more ∙ ap (λ n. c.loop-value.numbers.items ++ n ∷ []) c.number_of.ensures),
      omega (arith, c.push_reserved.ensures.len, c.loop-value.invariant.1),
      omega (arith, c.push_reserved.ensures.capacity, c.loop-value.invariant.2),
    )
