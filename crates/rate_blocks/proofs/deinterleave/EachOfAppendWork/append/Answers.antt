use Rattle.std.proofs.Common.{◌≡◌, ◌+◌, ◌*◌, ◌/◌, ◌++◌, length, map, arith, ap, ◌∙◌}
use Rattle.std.proofs.lemmas.List.{length-map}
use Rattle.std.proofs.lemmas.Nat.{div-mul-add}
use Rattle.lane_kernels.specs.Streams.{deinterleaved}
use Rattle.rate_blocks.proofs.deinterleave.EachOfAppendWork.append.Goals as goal

pub returns-clause-items : goal.returns-clause-items
returns-clause-items g c =
    let number = g.T.Number.number in
    let b = c.args.self.now in
    let items = c.args.items.now in
    let whole : length items ≡ c.args._count * b.step + 0 = omega (arith, c.requires.can.0, length-map items number) in
    let count : length items / b.step ≡ c.args._count = ap (λ l. l / b.step) whole ∙ div-mul-add c.args._count b.step 0 (omega (arith, c.requires.can.1)) in
    c.deinterleave.ensures.items ∙ ap (λ n. map number c.args.out.now.items ++ deinterleaved n b.step b.at (map number items)) count
