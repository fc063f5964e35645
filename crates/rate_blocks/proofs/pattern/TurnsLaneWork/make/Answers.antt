use Rattle.std.proofs.Common.{ℕ, suc, ◌+◌, ◌%◌, ◌<◌, length, arith, ap, ◌∙◌}
use Rattle.stream_model.specs.Lists.{item}
use Rattle.item_dispatch.proofs.Written.{write_next, written_all}
use Rattle.rate_blocks.proofs.Cycles.{next_rest}
use Rattle.rate_blocks.proofs.Periods.{read_value}
use Rattle.rate_blocks.proofs.pattern.TurnsLaneWork.make.Goals as goal

pub loop-k-preserved : goal.loop-k-preserved
loop-k-preserved g c =
    let values = c.args.self.now.values.now in
    let first = c.args.self.now.first in
    let k = c.loop-k.k in
    let n = length values in
    let rest : (first + k) % n < n = omega (arith, c.requires.some) in
    let within : c.loop-k.at < n = omega (arith, rest, c.loop-k.invariant.at) in
    record {
      at = c.after-at.ensures ∙ ap (λ r. suc r % n) c.loop-k.invariant.at ∙ next_rest (first + k) n (omega (arith, c.requires.some)) ∙ ap (λ a. a % n) (omega arith);
      written = write_next g.T.Number.number c.loop-k.out k c.narrow.result (λ (j : ℕ). item values ((first + j) % n)) c.loop-k.invariant.written (omega arith)
          (read_value g.T.Number.kind values c.loop-k.at _ (g.T.Number.number c.narrow.result) c.requires.items within c.narrow.ensures ∙ ap (item values) c.loop-k.invariant.at);
    }

pub returns : goal.returns
returns g c = written_all g.T.Number.number c.loop-k.out (length c.args.out.now) _ (omega arith) (λ j h. c.loop-k.invariant.written j (omega arith))
