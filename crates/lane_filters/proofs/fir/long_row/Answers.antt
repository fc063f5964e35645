use Rattle.std.proofs.Common.{◌-◌, ◌*◌, length, map, arith}
use Rattle.std.proofs.lemmas.List.{length-map}
use Rattle.lane_filters.specs.Words.{output}
use Rattle.lane_filters.proofs.Blocks.{fewer}
use Rattle.lane_filters.proofs.fir.long_row.Goals as goal

pub write_block-requires-then-out-ne0-clause-done : goal.write_block-requires-then-out-ne0-clause-done
write_block-requires-then-out-ne0-clause-done g c =
    let number = g.T.Number.number in
    let out = c.loop-block.out in
    fewer (output g.T.Number.kind c.args.h.now (map number c.args.x.now) c.args.shift) (length out - 32) (32 * c.loop-block.block) (map number out)
    (omega arith) (omega (arith, length-map out number)) c.loop-block.invariant
