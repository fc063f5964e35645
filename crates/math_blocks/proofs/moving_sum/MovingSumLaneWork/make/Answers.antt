use Rattle.std.proofs.Common.{◌≡◌, ℕ, ◌+◌, ◌-◌, ◌<◌, ◌≤◌, length, map, arith, ap, sym, ◌∙◌, to_z, w64, FitsSigned, rules}
use Rattle.std.proofs.lemmas.Int.{to_z-of_z}
use Rattle.std.proofs.lemmas.List.{length-map, take-map}
use Rattle.stream_model.specs.Numbers.{total, wrap}
use Rattle.stream_model.specs.Lists.{item, sum_below}
use Rattle.item_dispatch.proofs.Written.{write_next, written_all}
use Rattle.math_blocks.proofs.Summed.{added_fits, added_sum, taken_fits, taken_sum}
use Rattle.math_blocks.proofs.moving_sum.MovingSumLaneWork.make.Goals as goal

pub loop-k-init : goal.loop-k-init
loop-k-init g c =
    let number = g.T.Number.number in
    let past = c.args.self.now.length - 1 in
    let fits : FitsSigned w64 c.sum_of-sum.result = search rules in
    record {
      sum = to_z-of_z w64 c.sum_of-sum.result fits ∙ c.sum_of-sum.ensures ∙ ap total (sym (take-map number past c.args.items.now));
      written = λ k h. absurd (omega arith);
    }

pub overflow_add-sum : goal.overflow_add-sum
overflow_add-sum g c =
    added_fits g.T.Number.number c.args.items.now g.T.Number.kind c.are_in_range.ensures (c.args.self.now.length - 1) (length c.args.out.now) c.loop-k.k
    (omega (arith, c.args.self.now.few)) c.requires (omega (arith, c.loop-k-test.true)) (to_z w64 c.loop-k.sum-bits) c.loop-k.invariant.sum
    c.index-items-past.result c.widen-sum.result c.index-items-past.is c.widen-sum.ensures.value

pub overflow_sub-sum : goal.overflow_sub-sum
overflow_sub-sum g c =
    taken_fits g.T.Number.number c.args.items.now g.T.Number.kind c.are_in_range.ensures (c.args.self.now.length - 1) (length c.args.out.now) c.loop-k.k
    (omega (arith, c.args.self.now.few)) c.requires (omega (arith, c.loop-k-test.true)) (to_z w64 c.loop-k.sum-bits) c.loop-k.invariant.sum
    c.index-items-past.result c.widen-sum.result c.index-items-past.is c.widen-sum.ensures.value
    c.index-items-k.result c.widen-sum-in-loop-k.result c.index-items-k.is c.widen-sum-in-loop-k.ensures.value

pub loop-k-preserved : goal.loop-k-preserved
loop-k-preserved g c =
    let number = g.T.Number.number in
    let t = g.T.Number.kind in
    let items = c.args.items.now in
    let k = c.loop-k.k in
    let l = c.args.self.now.length in
    let few : l - 1 ≤ 1023 = omega (arith, c.args.self.now.few) in
    let near : k < length c.args.out.now = omega (arith, c.loop-k-test.true) in
    let all : l - 1 + 1 ≡ l = omega (arith, c.args.self.now.some) in
    record {
      sum = taken_sum number items t c.are_in_range.ensures (l - 1) (length c.args.out.now) k few c.requires near (to_z w64 c.loop-k.sum-bits) c.loop-k.invariant.sum
          c.index-items-past.result c.widen-sum.result c.index-items-past.is c.widen-sum.ensures.value
          c.index-items-k.result c.widen-sum-in-loop-k.result c.index-items-k.is c.widen-sum-in-loop-k.ensures.value;
      written = write_next number c.loop-k.out k c.wrap.result (λ (n : ℕ). wrap t (sum_below l (λ j. item (map number items) (n + j)))) c.loop-k.invariant.written (omega arith)
          (c.wrap.ensures ∙ ap (wrap t)
          (added_sum number items t c.are_in_range.ensures (l - 1) (length c.args.out.now) k few c.requires near (to_z w64 c.loop-k.sum-bits) c.loop-k.invariant.sum
          c.index-items-past.result c.widen-sum.result c.index-items-past.is c.widen-sum.ensures.value
          c.index-items-k.result c.widen-sum-in-loop-k.result c.index-items-k.is c.widen-sum-in-loop-k.ensures.value
          ∙ (λ i. sum_below (all i) (λ j. item (map number items) (k + j)))));
    }

pub returns : goal.returns
returns g c = written_all g.T.Number.number c.loop-k.out (length c.args.out.now) _ (omega arith) (λ j h. c.loop-k.invariant.written j (omega arith))

pub offset_bounds-items-past : goal.offset_bounds-items-past
offset_bounds-items-past g c = omega (arith, c.requires, c.loop-k-test.true, length-map c.args.items.now g.T.Number.number)

pub bounds-items-past : goal.bounds-items-past
bounds-items-past g c = omega (arith, c.requires, c.loop-k-test.true, length-map c.args.items.now g.T.Number.number)

pub offset_bounds-items-k : goal.offset_bounds-items-k
offset_bounds-items-k g c = omega (arith, c.requires, c.loop-k-test.true, length-map c.args.items.now g.T.Number.number)

pub bounds-items-k : goal.bounds-items-k
bounds-items-k g c = omega (arith, c.requires, c.loop-k-test.true, length-map c.args.items.now g.T.Number.number)
