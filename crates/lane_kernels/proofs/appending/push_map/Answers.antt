use Rattle.std.proofs.Common.{◌≡◌, ◌+◌, ◌-◌, ◌*◌, ◌%◌, ◌∙◌, length, map, drop, ap, sym, arith}
use Rattle.std.specs.List.{drop-map}
use Rattle.lane_kernels.proofs.Parts.{part_map}
use Rattle.lane_kernels.proofs.Runs.{part_more, rest_more}
use Rattle.lane_kernels.proofs.appending.push_map.Goals as goal

pub loop-turn-preserved : goal.loop-turn-preserved
loop-turn-preserved g c =
    let number = g.T.Number.number in
    let f = g.M.MapBlock.means c.args.op.now in
    let a = c.args.a.now in
    let at = c.loop-turn.turn * 16 in
    record {
      items = part_more g.U.Number.number (map f (map number a)) at (at + 16 - at) ((c.loop-turn.turn + 1) * 16) _ c.loop-turn.made.items c.push_turn.new.made.items c.map_turn.result
          c.push_turn.ensures.items c.loop-turn.invariant.items (c.map_turn.ensures ∙ part_map number f at (at + 16 - at) a) (omega arith);
      len = omega (arith, c.push_turn.ensures.len, c.loop-turn.invariant.len);
      capacity = omega (arith, c.push_turn.ensures.capacity, c.loop-turn.invariant.capacity);
    }

pub returns-then-rest-gt0-clause-items : goal.returns-then-rest-gt0-clause-items
returns-then-rest-gt0-clause-items g c =
    let number = g.T.Number.number in
    let f = g.M.MapBlock.means c.args.op.now in
    let a = c.args.a.now in
    let k = c.loop-turn.turn * 16 in
    let place : length a - length a % 16 ≡ k = omega arith in
    rest_more g.U.Number.number (map f (map number a)) k _ _ c.loop-turn.made.items c.push_map_last.new.made.items c.push_map_last.ensures.items c.loop-turn.invariant.items
    (ap (λ n. map f (map number (drop n a))) place ∙ sym (drop-map f k (map number a) ∙ ap (map f) (drop-map number k a)))
