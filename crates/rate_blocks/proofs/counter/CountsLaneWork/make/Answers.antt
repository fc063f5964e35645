use Rattle.std.proofs.Common.{ℕ, suc, ◌+◌, ◌%◌, ◌<◌, pos, length, arith, ap, ◌∙◌, w64}
use Rattle.std.proofs.lemmas.Int.{to_z_pos}
use Rattle.stream_model.specs.Numbers.{wrap}
use Rattle.item_dispatch.proofs.Written.{write_next, written_all}
use Rattle.rate_blocks.proofs.Cycles.{next_rest}
use Rattle.rate_blocks.proofs.counter.CountsLaneWork.make.Goals as goal

pub loop-k-preserved : goal.loop-k-preserved
loop-k-preserved g c =
    let first = c.args.self.now.first in
    let n = c.args.self.now.n in
    let k = c.loop-k.k in
    let rest : (first + k) % n < n = omega (arith, c.args.self.now.some) in
    let small : c.loop-k.count < 2147483648 = omega (arith, rest, c.loop-k.invariant.count, c.args.self.now.few) in
    record {
      count = c.after-count.ensures ∙ ap (λ r. suc r % n) c.loop-k.invariant.count ∙ next_rest (first + k) n (omega (arith, c.args.self.now.some)) ∙ ap (λ a. a % n) (omega arith);
      written = write_next g.T.Number.number c.loop-k.out k c.wrap.result (λ (j : ℕ). wrap g.T.Number.kind (pos ((first + j) % n))) c.loop-k.invariant.written (omega arith)
          (c.wrap.ensures ∙ ap (wrap g.T.Number.kind) (to_z_pos w64 c.loop-k.count (omega (arith, small))) ∙ ap (λ r. wrap g.T.Number.kind (pos r)) c.loop-k.invariant.count);
    }

pub returns : goal.returns
returns g c = written_all g.T.Number.number c.loop-k.out (length c.args.out.now) _ (omega arith) (λ j h. c.loop-k.invariant.written j (omega arith))
