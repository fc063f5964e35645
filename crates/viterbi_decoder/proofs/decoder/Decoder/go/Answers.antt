use Rattle.std.proofs.Common.{◌≡◌, suc, ◌+◌, map, arith, subst, ◌∙◌}
use Rattle.viterbi_decoder.specs.Found.{row_in, AreSums, AreLastRows}
use Rattle.viterbi_decoder.specs.Model.{trellis_of}
use Rattle.viterbi_decoder.proofs.Rows.{same-sums}
use Rattle.viterbi_decoder.proofs.decoder.Decoder.go.Goals as goal

pub loop-step-preserved : goal.loop-step-preserved
loop-step-preserved g c =
    let m = trellis_of c.args.self.now in
    let x = map g.T.Number.number c.args.metrics.now in
    let is = c.loop-step.invariant in
    let k = c.loop-step.step in
    let later : suc k ≡ k + 1 = omega arith in
    record {
      len = c.keep.ensures.len ∙ is.len;
      after_len = c.step.ensures.len ∙ is.after_len;
      rows_len = c.step.ensures.rows_len ∙ is.rows_len;
      sums = subst (λ n. AreSums m x n c.keep.new.to) later (same-sums m x (suc k) c.step.new.after c.keep.new.to
          c.keep.ensures.same c.step.ensures.sums);
      last = subst (λ n. AreLastRows m x n (row_in m c.step.new.rows)) later c.step.ensures.last;
      rows = c.step.ensures.rows;
    }

pub returns-clause-sums : goal.returns-clause-sums
returns-clause-sums g c =
    let d = c.args.self.now in
    let all : c.loop-step.step ≡ d.steps = omega arith in
    subst (λ n. AreSums (trellis_of d) (map g.T.Number.number c.args.metrics.now) n c.loop-step.sums) all
    c.loop-step.invariant.sums
