use Rattle.std.proofs.Common.{pos, sym, arith}
use Rattle.std.proofs.lemmas.List.{get_or-map}
use Rattle.math_blocks.proofs.map_bb.entry_of_all.Goals as goal

pub returns : goal.returns
returns c = sym (get_or-map pos c.args.table.now c.args.byte 0 (pos c.args.byte) (omega (arith, c.requires, c.ranges.byte.fits)))
