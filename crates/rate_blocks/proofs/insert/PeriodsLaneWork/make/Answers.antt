use Rattle.std.proofs.Common.{rules, ◌≤◌, ◌+◌, ◌-◌, ◌*◌, ◌/◌, ◌%◌, length, map, take, drop, refl, arith, ap, ◌∙◌}
use Rattle.kind_model.specs.Rates.{inserted}
use Rattle.item_dispatch.proofs.Written.{written_all}
use Rattle.rate_blocks.proofs.Frames.{frame_within, all_frames}
use Rattle.rate_blocks.proofs.Periods.{period_written}
use Rattle.rate_blocks.proofs.insert.PeriodsLaneWork.make.Goals as goal

pub offset_bounds-out-at : goal.offset_bounds-out-at
offset_bounds-out-at g c =
    let b = c.args.self.now in
    let within = frame_within c.loop-k.k b.count b.period (length c.args.out.now) c.loop-k-test.true c.requires.2 in
    let low : c.loop-k.k * b.period ≤ length c.loop-k.out = omega (arith, within) in
    search rules

pub offset_bounds-out-begin : goal.offset_bounds-out-begin
offset_bounds-out-begin g c =
    let b = c.args.self.now in
    let within = frame_within c.loop-k.k b.count b.period (length c.args.out.now) c.loop-k-test.true c.requires.2 in
    let low : c.loop-k.k * b.period + b.offset ≤ length c.loop-k.out = omega (arith, within, c.requires.0.above, c.requires.0.whole) in
    search rules

pub offset_bounds-out-begin-in-loop-k : goal.offset_bounds-out-begin-in-loop-k
offset_bounds-out-begin-in-loop-k g c =
    let b = c.args.self.now in
    let within = frame_within c.loop-k.k b.count b.period (length c.args.out.now) c.loop-k-test.true c.requires.2 in
    let low : c.loop-k.k * b.period + b.offset + length b.values.now ≤ length c.loop-k.out = omega (arith, within, c.requires.0.above, c.requires.0.whole) in
    search rules

pub loop-k-preserved : goal.loop-k-preserved
loop-k-preserved g c =
    let b = c.args.self.now in
    let is = c.requires.0 in
    let items = c.args.items.now in
    let from = c.loop-k.k * (b.period - length b.values.now) in
    let within = frame_within c.loop-k.k b.count b.period (length c.args.out.now) c.loop-k-test.true c.requires.2 in
    period_written g.T.Number.number b.values.now b.offset b.period c.loop-k.k _ _ _ _ _ _ items c.loop-k.out c.copy_from_slice.new.self c.write_values.new.out
    c.copy_from_slice-in-loop-k.new.self is.whole is.above refl (omega arith) refl (omega arith) refl (omega arith) (omega (arith, within))
    (c.copy_from_slice.ensures.len ∙ omega arith) (c.copy_from_slice.ensures.after ∙ ap (λ n. take n (drop from items)) (omega arith)) c.write_values.ensures
    (c.copy_from_slice-in-loop-k.ensures.len ∙ omega arith)
    (c.copy_from_slice-in-loop-k.ensures.after ∙ ap (λ n. take n (drop (from + b.offset) items)) (omega arith)) c.loop-k.invariant

pub returns : goal.returns
returns g c =
    let b = c.args.self.now in
    let xs = map g.T.Number.number c.args.items.now in
    let past = all_frames c.loop-k.k b.count b.period (length c.args.out.now) (omega (arith, c.loop-k-test.false)) c.requires.2 in
    written_all g.T.Number.number c.loop-k.out (length c.args.out.now)
    (λ k. inserted b.values.now b.offset xs (k / b.period * (b.period - length b.values.now)) (k % b.period)) (omega arith)
    (λ j h. c.loop-k.invariant j (omega (arith, h, past)))
