use Rattle.std.proofs.Common.{ℕ, ◌+◌, ◌*◌, ◌≤◌, length, map, arith, ap, ◌∙◌}
use Rattle.kind_model.specs.Rates.{frame}
use Rattle.item_dispatch.proofs.Written.{write_next, written_all}
use Rattle.rate_blocks.proofs.Chosen.{part_framed}
use Rattle.rate_blocks.proofs.Frames.{frame_within}
use Rattle.rate_blocks.proofs.per_frame.PerFrameLaneWork.make.Goals as goal

pub loop-k-preserved : goal.loop-k-preserved
loop-k-preserved g c =
    let number = g.T.Number.number in
    let t = g.T.Number.kind in
    let gives = g.M.MakesOne.gives in
    let xs = map number c.args.items.now in
    let n = c.args.self.now.n in
    let k = c.loop-k.k in
    let within : k * n + n ≤ length xs = frame_within k (length c.args.out.now) n (length xs) c.loop-k-test.true c.requires in
    write_next number c.loop-k.out k c.of_frame.result (λ (m : ℕ). gives t (frame n xs m)) c.loop-k.invariant (omega arith)
    (c.of_frame.ensures ∙ ap (gives t) (part_framed number c.args.items.now n k within))

pub returns : goal.returns
returns g c = written_all g.T.Number.number c.loop-k.out (length c.args.out.now) _ (omega arith) (λ j h. c.loop-k.invariant j (omega arith))
