use Rattle.std.proofs.Common.{◌++◌, map, arith, ap, sym, ◌∙◌}
use Rattle.lane_kernels.specs.Streams.{interleaved}
use Rattle.lane_kernels.proofs.Appended.{eight_are}
use Rattle.lane_kernels.proofs.streams.push_streams.Goals as goal

pub returns-in-len8-clause-items : goal.returns-in-len8-clause-items
returns-in-len8-clause-items g c =
    let number = g.T.Number.number in
    c.push_rounds-in-len8.ensures.items
    ∙ ap (λ ss. map number c.args.made.now.items ++ interleaved c.args.rounds (map (λ s. map number s.now) ss))
    (sym (eight_are c.args.streams.now _ _ _ _ _ _ _ _ (omega (arith, c.in-len8.len_at_least, c.in-len8.len_below))
    c.a-item-then-streams-lt9.is
    c.b-item-then-streams-lt9.is
    c.c-item-then-streams-lt9.is
    c.d-item-then-streams-lt9.is
    c.e-item.is
    c.f-item.is
    c.g-item.is
    c.h-item.is))
