use Rattle.std.proofs.Common.{◌≡◌, ◌+◌, ◌-◌, ◌∙◌, length, map, arith}
use Rattle.std.proofs.lemmas.List.{length-map}
use Rattle.lane_kernels.proofs.Parts.{part_map, stepped, ended, sooner}
use Rattle.lane_kernels.proofs.blocks.map_steps.Goals as goal

pub blocks-2-preserved : goal.blocks-2-preserved
blocks-2-preserved g c =
    let f = g.M.MapBlock.means c.args.op.now in
    let a = c.args.a.now in
    let at = c.blocks-2.at in
    let end = at + c.LANES-lanes.result in
    let long : length (map f (map g.T.Number.number a)) ≡ length a = length-map (map g.T.Number.number a) f ∙ length-map a g.T.Number.number in
    record {
      within = omega arith;
      there = stepped g.U.Number.number (map f (map g.T.Number.number a)) at end (end - at) (end - at) c.blocks-2.out c.map_one.new.out
          (omega arith) (omega (arith, long)) (omega (arith, long)) c.blocks-2.invariant.there (c.map_one.ensures ∙ part_map g.T.Number.number f at (end - at) a);
    }

pub returns-then-at-a : goal.returns-then-at-a
returns-then-at-a g c =
    let f = g.M.MapBlock.means c.args.op.now in
    let a = c.args.a.now in
    let from = c.min-from.result in
    let long : length (map f (map g.T.Number.number a)) ≡ length a = length-map (map g.T.Number.number a) f ∙ length-map a g.T.Number.number in
    ended g.U.Number.number (map f (map g.T.Number.number a)) from (length c.blocks-2.out - from) (length a - from) c.blocks-2.out c.map_rest.new.out
    (omega (arith, long, c.min-from.ensures)) (omega arith) (omega (arith, long))
    (sooner g.U.Number.number (map f (map g.T.Number.number a)) from c.blocks-2.at c.blocks-2.out (omega (arith, c.min-from.ensures)) c.blocks-2.invariant.there)
    (c.map_rest.ensures ∙ part_map g.T.Number.number f from (length a - from) a)
