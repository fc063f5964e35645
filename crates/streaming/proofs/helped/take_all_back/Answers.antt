use Rattle.std.proofs.Common.{refl}
use Rattle.streaming.proofs.Working.{led_none, led_then}
use Rattle.streaming.proofs.helped.take_all_back.Goals as goal

pub loop-works-init : goal.loop-works-init
loop-works-init g c = λ most. led_none g.B.Block.meaning most c.args.parts.now c.args.parts.now c.requires.right refl

pub returns-then-not-take_next : goal.returns-then-not-take_next
returns-then-not-take_next g c =
    λ most. led_then g.B.Block.meaning most c.args.parts.now c.loop-works.parts c.take_next.new.parts (c.loop-works.invariant most) (c.take_next.ensures most)

pub loop-works-preserved : goal.loop-works-preserved
loop-works-preserved g c =
    λ most. led_then g.B.Block.meaning most c.args.parts.now c.loop-works.parts c.take_next.new.parts (c.loop-works.invariant most) (c.take_next.ensures most)

pub take_next-requires : goal.take_next-requires
take_next-requires g c = record { right = (c.loop-works.invariant 0).right }
