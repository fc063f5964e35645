use Rattle.std.proofs.Common.{◌≡◌, ◌*◌, map, arith, refl, ap, subst, ◌∙◌}
use Rattle.kind_model.specs.Trellis.{states_of}
use Rattle.viterbi_decoder.specs.Found.{AreHeld}
use Rattle.viterbi_decoder.specs.Model.{trellis_of}
use Rattle.viterbi_decoder.proofs.Rows.{held-rows, held-sums, none-held}
use Rattle.viterbi_decoder.proofs.decoder.Decoder.step.Goals as goal

pub loop-state-init : goal.loop-state-init
loop-state-init g c =
    let d = c.args.self.now in
    let m = trellis_of d in
    let x = map g.T.Number.number c.args.metrics.now in
    let none : 0 ≡ 0 * d.symbols = omega arith in
    record {
      len = c.clear.ensures.len;
      rows_len = refl;
      held = subst (λ n. AreHeld m x c.args.step n c.clear.new.sums c.args.rows.now) none
          (none-held m x c.args.step c.clear.new.sums c.args.rows.now c.clear.ensures.none);
      stays = λ i h. refl;
      rows = c.requires.rows;
    }

pub returns-clause-last : goal.returns-clause-last
returns-clause-last g c =
    let d = c.args.self.now in
    let m = trellis_of d in
    let state = c.loop-state.state in
    let is = c.loop-state.invariant in
    let all : state ≡ states_of m = omega (arith, d.states_are) in
    held-rows m (map g.T.Number.number c.args.metrics.now) c.args.step (state * m.symbols) c.loop-state.after
    c.loop-state.rows c.args.rows.now (ap (λ n. n * m.symbols) all ∙ d.is.whole)
    is.held is.stays c.requires.last

pub returns-clause-sums : goal.returns-clause-sums
returns-clause-sums g c =
    let d = c.args.self.now in
    let m = trellis_of d in
    let state = c.loop-state.state in
    let all : state ≡ states_of m = omega (arith, d.states_are) in
    held-sums m (map g.T.Number.number c.args.metrics.now) c.args.step (state * m.symbols) c.loop-state.after
    c.loop-state.rows (ap (λ n. n * m.symbols) all ∙ d.is.whole) c.loop-state.invariant.held
