use Rattle.std.proofs.Common.{◌≤◌, ◌+◌, ◌*◌, length, map, arith, rules, ap}
use Rattle.std.proofs.lemmas.List.{length-map}
use Rattle.item_dispatch.proofs.Written.{read_item}
use Rattle.rate_blocks.proofs.Rounds.{turn_within, round_spread}
use Rattle.rate_blocks.proofs.turns.spread.Goals as goal

pub offset_bounds-out-g : goal.offset_bounds-out-g
offset_bounds-out-g g c =
    let t = c.args.turn.now in
    let there = turn_within c.loop-g.g t.rounds t.all (t.before + t.length) c.loop-g-test.true c.requires.can.within in
    let low : c.loop-g.g * t.all + t.before ≤ length c.loop-g.out = omega (arith, there, c.requires.can.given, length-map c.args.out.now g.T.Number.number) in
    search rules

pub loop-g-preserved : goal.loop-g-preserved
loop-g-preserved g c =
    round_spread g.T.Number.number c.args.turn.now c.loop-g.g c.args.items.now c.loop-g.out c.index-items-g.result (map g.T.Number.number c.args.out.now)
    c.requires.one c.requires.can.within c.loop-g-test.true (omega (arith, c.requires.can.given, length-map c.args.out.now g.T.Number.number))
    (read_item g.T.Number.number c.args.items.now c.loop-g.g c.index-items-g.result c.index-items-g.is
    (omega (arith, c.loop-g-test.true, c.requires.can.taken, ap (λ l. c.args.turn.now.rounds * l) c.requires.one, length-map c.args.items.now g.T.Number.number))) c.loop-g.invariant
