use Rattle.std.proofs.Common.{ℕ, ◌∙◌, pos, map, length, ap, sym, arith}
use Rattle.std.proofs.lemmas.List.{get_or-map}
use Rattle.stream_model.specs.Lists.{item}
use Rattle.kind_model.specs.Math.{number_for}
use Rattle.item_dispatch.proofs.Written.{write_next, written_all}
use Rattle.math_blocks.proofs.table.write_numbers.Goals as goal

pub loop-k-preserved : goal.loop-k-preserved
loop-k-preserved g c =
    let values = map g.T.Number.number c.args.values.now in
    write_next g.T.Number.number c.loop-k.out c.loop-k.k c.number_of.result (λ (k : ℕ). number_for values (item (map pos c.args.items.now) k)) c.loop-k.invariant (omega arith)
    (c.number_of.ensures ∙ ap (number_for values) (sym (get_or-map pos c.args.items.now c.loop-k.k 0 (pos 0) (omega (arith, c.requires.same_length)))))

pub returns : goal.returns
returns g c = written_all g.T.Number.number c.loop-k.out (length c.args.out.now) _ (omega arith) (λ j h. c.loop-k.invariant j (omega arith))
