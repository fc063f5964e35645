use Rattle.std.proofs.Common.{◌≡◌, ◌*◌, ◌-◌, suc, map, arith, subst}
use Rattle.viterbi_decoder.specs.Found.{AreSums}
use Rattle.viterbi_decoder.specs.Model.{trellis_of}
use Rattle.viterbi_decoder.proofs.Rows.{same-sums}
use Rattle.viterbi_decoder.proofs.decoder.Decoder.go_pairs.Goals as goal

pub step_pairs-requires-then-steps-eq1-clause-sums : goal.step_pairs-requires-then-steps-eq1-clause-sums
step_pairs-requires-then-steps-eq1-clause-sums g c =
    let d = c.args.self.now in
    let m = trellis_of d in
    let x = map g.T.Number.number c.args.metrics.now in
    let odd : 2 * c.loop-two.two ≡ d.steps - 1 = omega (arith, c.if-steps-eq1.true) in
    subst (λ n. AreSums m x n c.loop-two.sums) odd c.loop-two.invariant.sums

pub returns-then-steps-eq1-clause-sums : goal.returns-then-steps-eq1-clause-sums
returns-then-steps-eq1-clause-sums g c =
    let d = c.args.self.now in
    let m = trellis_of d in
    let x = map g.T.Number.number c.args.metrics.now in
    let all : suc (d.steps - 1) ≡ d.steps = omega (arith, d.is.some_steps) in
    subst (λ n. AreSums m x n c.keep.new.to) all
    (same-sums m x (suc (d.steps - 1)) c.step_pairs-then-steps-eq1.new.after c.keep.new.to c.keep.ensures.same
    c.step_pairs-then-steps-eq1.ensures.sums)
