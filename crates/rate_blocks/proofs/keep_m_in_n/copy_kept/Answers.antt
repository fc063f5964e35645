use Rattle.std.proofs.Common.{ℕ, ◌+◌, ◌*◌, ◌/◌, ◌%◌, length, map, take, drop, arith, ap, ◌∙◌}
use Rattle.stream_model.specs.Lists.{item}
use Rattle.item_dispatch.proofs.Written.{written_all}
use Rattle.rate_blocks.proofs.Frames.{kept_more, frame_within, all_frames}
use Rattle.rate_blocks.proofs.keep_m_in_n.copy_kept.Goals as goal

pub loop-k-preserved : goal.loop-k-preserved
loop-k-preserved g c =
    let b = c.args.kept.now in
    let items = c.args.items.now in
    let from = c.loop-k.k * b.n + b.offset in
    let place = ap (λ (m : ℕ). c.loop-k.k * m) c.requires.m in
    let within = frame_within c.loop-k.k b.rounds b.m (length c.args.out.now) c.loop-k-test.true c.requires.given in
    kept_more g.T.Number.number b.m b.n b.offset c.loop-k.k _ _ items c.loop-k.out c.copy_from_slice.new.self place (omega (arith, c.requires.m)) b.kept.some
    (omega (arith, within, place, c.requires.m)) (c.copy_from_slice.ensures.len ∙ omega arith)
    (c.copy_from_slice.ensures.after ∙ ap (λ n. take n (drop from items)) (omega arith)) c.loop-k.invariant

pub returns : goal.returns
returns g c =
    let b = c.args.kept.now in
    let xs = map g.T.Number.number c.args.items.now in
    let past = all_frames c.loop-k.k b.rounds b.m (length c.args.out.now) (omega (arith, c.loop-k-test.false)) c.requires.given in
    written_all g.T.Number.number c.loop-k.out (length c.args.out.now) (λ k. item xs (k / b.m * b.n + b.offset + k % b.m)) (omega arith)
    (λ j h. c.loop-k.invariant j (omega (arith, h, past)))
