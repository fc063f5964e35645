use Rattle.std.proofs.Common.{ℕ, ◌∙◌, pos, map, length, ap, sym, arith}
use Rattle.std.proofs.lemmas.List.{get_or-map}
use Rattle.stream_model.specs.Lists.{item}
use Rattle.kind_model.specs.Math.{looked_up}
use Rattle.item_dispatch.proofs.Written.{write_next, written_all}
use Rattle.math_blocks.proofs.map_bb.look_up.Goals as goal

pub loop-k-preserved : goal.loop-k-preserved
loop-k-preserved c =
    let table = map pos c.args.table.now in
    write_next pos c.loop-k.out c.loop-k.k c.entry.result (λ (k : ℕ). looked_up table (item (map pos c.args.items.now) k)) c.loop-k.invariant (omega arith)
    (c.entry.ensures ∙ ap (looked_up table) (sym (get_or-map pos c.args.items.now c.loop-k.k 0 (pos 0) (omega (arith, c.requires)))))

pub returns : goal.returns
returns c = written_all pos c.loop-k.out (length c.args.out.now) _ (omega arith) (λ j h. c.loop-k.invariant j (omega arith))
