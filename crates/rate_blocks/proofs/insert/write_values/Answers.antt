use Rattle.std.proofs.Common.{pos, map, arith}
use Rattle.std.proofs.lemmas.List.{length-map, ext_get_or}
use Rattle.stream_model.specs.Lists.{item}
use Rattle.item_dispatch.proofs.Written.{write_next}
use Rattle.rate_blocks.proofs.Periods.{read_value}
use Rattle.rate_blocks.proofs.insert.write_values.Goals as goal

pub loop-k-preserved : goal.loop-k-preserved
loop-k-preserved g c =
    let values = c.args.values.now in
    write_next g.T.Number.number c.loop-k.out c.loop-k.k c.narrow.result (item values) c.loop-k.invariant (omega (arith, c.requires.same_length))
    (read_value g.T.Number.kind values c.loop-k.k _ (g.T.Number.number c.narrow.result) c.requires.items c.loop-k-test.true c.narrow.ensures)

pub returns : goal.returns
returns g c =
    let number = g.T.Number.number in
    let long = length-map c.loop-k.out number in
    ext_get_or (pos 0) (map number c.loop-k.out) c.args.values.now (omega (arith, long, c.requires.same_length))
    (λ j h. c.loop-k.invariant j (omega (arith, h, long, c.requires.same_length, c.loop-k-test.false)))
