use Rattle.std.proofs.Common.{◌≡◌, ℕ, ◌+◌, ◌-◌, ◌++◌, ◌∙◌, length, map, take, drop, refl, ap, sym, arith, rules, FitsSigned, w64}
use Rattle.std.proofs.lemmas.Int.{to_z-of_z}
use Rattle.std.proofs.lemmas.List.{take_all, length-take-le, length-drop}
use Rattle.stream_model.specs.Lists.{item, listed}
use Rattle.settings.specs.Values.{held_of}
use Rattle.lane_kernels.proofs.Parts.{take_two}
use Rattle.shape_laws.specs.Shaped.{length-listed}
use Rattle.math_blocks.specs.Stretch.{number_among}
use Rattle.math_blocks.proofs.Stretches.{next_stretch, stretch_written, set_item, over_none}
use Rattle.math_blocks.proofs.stretch.run_stretches.Goals as goal

pub overflow_sub-stop : goal.overflow_sub-stop
overflow_sub-stop g c =
    let next = next_stretch held_of c.args.held.now c.loop-i.i c.index-held-i.result c.loop-i.at (c.args.from + length c.args.items.now) c.end_of-end.result
    c.loop-i-test.true c.index-held-i.is c.loop-i.invariant.over c.end_of-end.ensures in
    omega (arith, next.0)

pub slice_bounds-run-count : goal.slice_bounds-run-count
slice_bounds-run-count g c =
    let next = next_stretch held_of c.args.held.now c.loop-i.i c.index-held-i.result c.loop-i.at (c.args.from + length c.args.items.now) c.end_of-end.result
    c.loop-i-test.true c.index-held-i.is c.loop-i.invariant.over c.end_of-end.ensures in
    omega (arith, next.0)

pub slice_bounds-run-start : goal.slice_bounds-run-start
slice_bounds-run-start g c =
    let next = next_stretch held_of c.args.held.now c.loop-i.i c.index-held-i.result c.loop-i.at (c.args.from + length c.args.items.now) c.end_of-end.result
    c.loop-i-test.true c.index-held-i.is c.loop-i.invariant.over c.end_of-end.ensures in
    let low = next.0 in
    let high = next.1 in
    search rules

pub slice_bounds-run-end : goal.slice_bounds-run-end
slice_bounds-run-end g c =
    let next = next_stretch held_of c.args.held.now c.loop-i.i c.index-held-i.result c.loop-i.at (c.args.from + length c.args.items.now) c.end_of-end.result
    c.loop-i-test.true c.index-held-i.is c.loop-i.invariant.over c.end_of-end.ensures in
    let low = next.0 in
    let high = next.1 in
    search rules

pub run-requires-clause-in_range : goal.run-requires-clause-in_range
run-requires-clause-in_range g c =
    let fits : FitsSigned w64 c.number_in-number.result = search rules in
    rw (to_z-of_z w64 c.number_in-number.result fits, c.number_in-number.ensures)
    (set_item held_of c.args.held.now c.loop-i.i c.index-held-i.result (g.B.EachItem.low c.args.block.now) (g.B.EachItem.high c.args.block.now) c.loop-i-test.true c.index-held-i.is c.requires.in_range)

pub loop-i-preserved : goal.loop-i-preserved
loop-i-preserved g c =
    let to = c.args.from + length c.args.items.now in
    let end = c.end_of-end.result in
    let fits : FitsSigned w64 c.number_in-number.result = search rules in
    let next = next_stretch held_of c.args.held.now c.loop-i.i c.index-held-i.result c.loop-i.at to end
    c.loop-i-test.true c.index-held-i.is c.loop-i.invariant.over c.end_of-end.ensures in
    let target = listed (length c.args.items.now)
    (λ k. g.B.EachItem.gives c.args.block.now (number_among (map held_of c.args.held.now) (c.args.from + k)) (item (map g.T.Number.number c.args.items.now) k)) in
    let long : length target ≡ length c.args.items.now = length-listed (length c.args.items.now)
    (λ k. g.B.EachItem.gives c.args.block.now (number_among (map held_of c.args.held.now) (c.args.from + k)) (item (map g.T.Number.number c.args.items.now) k)) in
    let size = end - c.args.from - (c.loop-i.at - c.args.from) in
    let stretch = take size (drop (c.loop-i.at - c.args.from) c.args.items.now) in
    let part = stretch_written held_of c.args.held.now c.loop-i.i c.index-held-i.result g.T.Number.number c.args.items.now (g.B.EachItem.gives c.args.block.now)
    c.args.from c.loop-i.at to end size c.number_in-number.result (listed (length stretch) (λ k. g.B.EachItem.gives c.args.block.now c.number_in-number.result (item (map g.T.Number.number stretch) k)))
    c.loop-i-test.true c.index-held-i.is c.loop-i.invariant.over c.end_of-end.ensures c.loop-i.invariant.above (omega arith) c.number_in-number.ensures c.loop-i.invariant.among
    (omega (arith, next.0)) refl in
    let place : end - c.args.from ≡ c.loop-i.at - c.args.from + (end - c.loop-i.at) = omega (arith, next.0, c.loop-i.invariant.above) in
    let stretch_long : length stretch ≡ end - c.loop-i.at =
    length-take-le size (drop (c.loop-i.at - c.args.from) c.args.items.now) (omega (arith, next.1, length-drop (c.loop-i.at - c.args.from) c.args.items.now)) ∙ omega (arith, next.0, c.loop-i.invariant.above) in
    record {
      above = omega (arith, next.0);
      upto = next.1;
      over = next.2;
      among = part.1;
      items = (rw (to_z-of_z w64 c.number_in-number.result fits) at c.run.ensures.items) ∙ (λ i. c.loop-i.invariant.items i ++ part.0 i)
          ∙ sym (ap (λ n. take n target) place ∙ take_two (c.loop-i.at - c.args.from) (end - c.loop-i.at) target);
      len = omega (arith, c.run.ensures.len, c.loop-i.invariant.len, stretch_long, next.0, c.loop-i.invariant.above);
      capacity = omega (arith, c.run.ensures.capacity, c.loop-i.invariant.capacity);
    }

pub returns-clause-items : goal.returns-clause-items
returns-clause-items g c =
    let at_end : c.loop-i.at ≡ c.args.from + length c.args.items.now = over_none held_of c.args.held.now c.loop-i.i c.loop-i.at (c.args.from + length c.args.items.now) (omega arith) c.loop-i.invariant.over in
    let f = λ (k : ℕ). g.B.EachItem.gives c.args.block.now (number_among (map held_of c.args.held.now) (c.args.from + k)) (item (map g.T.Number.number c.args.items.now) k) in
    c.loop-i.invariant.items ∙ take_all (c.loop-i.at - c.args.from) (listed (length c.args.items.now) f) (omega (arith, at_end, length-listed (length c.args.items.now) f))
