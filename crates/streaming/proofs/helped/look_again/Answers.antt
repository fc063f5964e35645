use Rattle.std.proofs.Common.{refl}
use Rattle.streaming.proofs.Working.{led_none, led_then}
use Rattle.streaming.proofs.helped.look_again.Goals as goal
use Rattle.streaming.proofs.helped.look_again.Goals.{else-not-branch-via-then-not-branch+else-not-take_next, else-not-branch-via-else-not-branch}

pub loop-looks-init : goal.loop-looks-init
loop-looks-init g c = led_none g.B.Block.meaning c.args.max c.args.parts.now c.args.parts.now c.requires.right refl

pub returns-in_err-look : goal.returns-in_err-look
returns-in_err-look g c = led_then g.B.Block.meaning c.args.max c.args.parts.now c.loop-looks.parts c.look.new.parts c.loop-looks.invariant c.look.ensures

pub returns-then-not-take_next : goal.returns-then-not-take_next
returns-then-not-take_next g c =
    led_then g.B.Block.meaning c.args.max c.args.parts.now c.look.new.parts c.take_next.new.parts
    (led_then g.B.Block.meaning c.args.max c.args.parts.now c.loop-looks.parts c.look.new.parts c.loop-looks.invariant c.look.ensures) (c.take_next.ensures c.args.max)

pub loop-looks-preserved : goal.loop-looks-preserved
loop-looks-preserved g c =
    let looked = led_then g.B.Block.meaning c.args.max c.args.parts.now c.loop-looks.parts c.look.new.parts c.loop-looks.invariant c.look.ensures in
    elim c.else-not-branch.branch [
      | else-not-branch-via-then-not-branch+else-not-take_next w ↦ rw w.parts-is (led_then g.B.Block.meaning c.args.max c.args.parts.now c.look.new.parts w.take_next.new.parts looked (w.take_next.ensures c.args.max))
      | else-not-branch-via-else-not-branch w ↦ rw w.parts-is looked
    ]
