use Rattle.std.proofs.Common.{◌≤◌, ◌+◌, ◌*◌, length, map, arith, rules, take, drop, ap, sym, ◌∙◌}
use Rattle.std.proofs.lemmas.List.{length-map}
use Rattle.rate_blocks.proofs.Rounds.{turn_within, round_copied}
use Rattle.rate_blocks.proofs.turns.copy_turns.Goals as goal

pub offset_bounds-out-at : goal.offset_bounds-out-at
offset_bounds-out-at g c =
    let t = c.args.turn.now in
    let there = turn_within c.loop-g.g t.rounds t.all (t.before + t.length) c.loop-g-test.true c.requires.can.within in
    let low : c.loop-g.g * t.all + t.before ≤ length c.loop-g.out = omega (arith, there, c.requires.can.given, length-map c.args.out.now g.T.Number.number) in
    search rules

pub loop-g-preserved : goal.loop-g-preserved
loop-g-preserved g c =
    round_copied g.T.Number.number c.args.turn.now c.loop-g.g _ _ c.args.items.now c.loop-g.out c.copy_from_slice.new.self (map g.T.Number.number c.args.out.now)
    (omega arith) (omega arith) c.requires.can.within c.loop-g-test.true (sym (length-map c.args.items.now g.T.Number.number) ∙ c.requires.can.taken)
    (omega (arith, c.requires.can.given, length-map c.args.out.now g.T.Number.number))
    (c.copy_from_slice.ensures.after ∙ ap (λ k. take k (drop (c.loop-g.g * c.args.turn.now.length) c.args.items.now)) (omega arith)) c.loop-g.invariant
