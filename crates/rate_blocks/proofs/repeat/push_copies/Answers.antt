use Rattle.std.proofs.Common.{◌∷◌, [], ◌++◌, ◌∙◌, ap, replicate, arith}
use Rattle.std.proofs.lemmas.List.{append_assoc, replicate_more}
use Rattle.rate_blocks.proofs.repeat.push_copies.Goals as goal

pub loop-copy-preserved : goal.loop-copy-preserved
loop-copy-preserved g c =
    let there = replicate c.loop-copy._copy c.args.item in
    record {
      items = c.push_reserved.ensures.items ∙ ap (λ ys. ys ++ c.args.item ∷ []) c.loop-copy.invariant.items ∙ append_assoc c.args.made.now.items there (c.args.item ∷ [])
          ∙ ap (λ ys. c.args.made.now.items ++ ys) (replicate_more c.loop-copy._copy c.args.item);
      len = omega (arith, c.push_reserved.ensures.len, c.loop-copy.invariant.len);
      capacity = omega (arith, c.push_reserved.ensures.capacity, c.loop-copy.invariant.capacity);
    }
