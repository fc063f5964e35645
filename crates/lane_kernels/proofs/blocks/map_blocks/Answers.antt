use Rattle.std.proofs.Common.{◌≡◌, ◌+◌, ◌-◌, ◌*◌, ◌∙◌, length, map, arith}
use Rattle.std.proofs.lemmas.List.{length-map}
use Rattle.lane_kernels.proofs.Parts.{part_map, stepped, ended, sooner}
use Rattle.lane_kernels.proofs.blocks.map_blocks.Goals as goal

pub loop-turn-preserved : goal.loop-turn-preserved
loop-turn-preserved g c =
    let f = g.M.MapBlock.means c.args.op.now in
    let a = c.args.a.now in
    let at = c.loop-turn.turn * 16 in
    stepped g.U.Number.number (map f (map g.T.Number.number a)) at ((c.loop-turn.turn + 1) * 16) _ (at + 16 - at) c.loop-turn.out c.map_steps.new.out
    (omega arith) (omega (arith, length-map (map g.T.Number.number a) f, length-map a g.T.Number.number))
    (omega (arith, length-map (map g.T.Number.number a) f, length-map a g.T.Number.number)) c.loop-turn.invariant
    (c.map_steps.ensures ∙ part_map g.T.Number.number f at (at + 16 - at) a)

pub returns-then-a-gt0 : goal.returns-then-a-gt0
returns-then-a-gt0 g c =
    let f = g.M.MapBlock.means c.args.op.now in
    let a = c.args.a.now in
    let at = c.saturating_sub-at.result in
    let long : length (map f (map g.T.Number.number a)) ≡ length a = length-map (map g.T.Number.number a) f ∙ length-map a g.T.Number.number in
    ended g.U.Number.number (map f (map g.T.Number.number a)) at _ (length a - at) c.loop-turn.out c.map_last.new.out
    (omega (arith, long, c.saturating_sub-at.ensures)) (omega arith) (omega (arith, long))
    (sooner g.U.Number.number (map f (map g.T.Number.number a)) at (c.loop-turn.turn * 16) c.loop-turn.out (omega (arith, c.saturating_sub-at.ensures)) c.loop-turn.invariant)
    (c.map_last.ensures ∙ part_map g.T.Number.number f at (length a - at) a)
