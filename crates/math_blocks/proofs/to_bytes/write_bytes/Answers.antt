use Rattle.std.proofs.Common.{ℕ, ◌∙◌, pos, map, length, ap, arith}
use Rattle.stream_model.specs.Lists.{item}
use Rattle.item_dispatch.proofs.Written.{read_item, write_next, written_all}
use Rattle.math_blocks.proofs.to_bytes.write_bytes.Goals as goal

pub loop-k-preserved : goal.loop-k-preserved
loop-k-preserved g c =
    let gives = g.M.MakesByte.gives c.args.makes.now in
    let number = g.T.Number.number in
    write_next pos c.loop-k.out c.loop-k.k c.byte_of.result (λ (k : ℕ). gives (item (map number c.args.items.now) k)) c.loop-k.invariant (omega arith)
    (c.byte_of.ensures ∙ ap gives (read_item number c.args.items.now c.loop-k.k c.index-items-k.result c.index-items-k.is (omega (arith, c.requires))))

pub returns : goal.returns
returns g c = written_all pos c.loop-k.out (length c.args.out.now) _ (omega arith) (λ j h. c.loop-k.invariant j (omega arith))
