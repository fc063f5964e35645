use Rattle.std.proofs.Common.{◌≡◌, ◌<◌, Some, true, false, arith, ap, sym, subst, ◌∙◌}
use Rattle.std.specs.Option.{option_map}
use Rattle.kind_model.specs.Trellis.{states_of, cost}
use Rattle.viterbi_decoder.specs.Found.{found, found_below, is_less}
use Rattle.viterbi_decoder.specs.Model.{trellis_of}
use Rattle.viterbi_decoder.proofs.Costs.{few-steps}
use Rattle.viterbi_decoder.proofs.LastStates.{end-left, end-taken, end-sum, some-path}
use Rattle.viterbi_decoder.proofs.decoder.Decoder.last_state.Goals as goal
use Rattle.viterbi_decoder.proofs.decoder.Decoder.last_state.Goals.{then-is_less, else-is_less}

pub loop-state-preserved : goal.loop-state-preserved
loop-state-preserved c =
    let d = c.args.self.now in
    let m = trellis_of d in
    let i = c.loop-state.state in
    let least = c.loop-state.least in
    let is = c.loop-state.invariant in
    let sums = c.args.sums.now in
    let sum = c.end_sum-sum.result in
    let here : i < states_of m = omega (arith, d.states_are) in
    let few = few-steps m d.is in
    elim c.if-is_less.branch [
      | then-is_less w ↦
          let less : is_less sum least ≡ true = sym c.is_less.ensures ∙ w.if-is_less.true in
          record {
            within = subst (λ s. s < states_of m) (sym w.last-is) here;
            least = λ x h.
                let taken = end-taken m x i sums sum least here few h c.end_sum-sum.ensures (is.least x h) less in
                w.least-is ∙ end-sum m x i sums sum least here few h c.end_sum-sum.ensures (is.least x h) less ∙ ap
                (option_map (cost m x 0 m.steps)) (sym taken);
            path = λ x h p e.
                let taken = end-taken m x i sums sum least here few h c.end_sum-sum.ensures (is.least x h) less in
                subst (λ s. found m x m.steps s ≡ Some p) (sym w.last-is) (sym taken ∙ e);
          }
      | else-is_less w ↦
          let more : is_less sum least ≡ false = sym c.is_less.ensures ∙ w.if-is_less.false in
          record {
            within = subst (λ s. s < states_of m) (sym w.last-is) is.within;
            least = λ x h.
                let left = end-left m x i sums sum least here few h c.end_sum-sum.ensures (is.least x h) more in
                w.least-is ∙ is.least x h ∙ ap (option_map (cost m x 0 m.steps)) (sym left);
            path = λ x h p e.
                let left = end-left m x i sums sum least here few h c.end_sum-sum.ensures (is.least x h) more in
                subst (λ s. found m x m.steps s ≡ Some p) (sym w.last-is) (is.path x h p (sym left ∙ e));
          }
    ]

pub returns-in-Some-clause-some : goal.returns-in-Some-clause-some
returns-in-Some-clause-some c =
    let d = c.args.self.now in
    let m = trellis_of d in
    let all : c.loop-state.state ≡ states_of m = omega (arith, d.states_are) in
    λ x h.
    let below = found_below m x c.loop-state.state in
    let there = some-path (cost m x 0 m.steps) c.in-Some.field-0 below
    (sym c.in-Some.is ∙ c.loop-state.invariant.least x h) in (
      there.0,
      c.loop-state.invariant.path x h there.0 there.1,
      subst (λ n. found_below m x n ≡ Some there.0) all
          there.1,
    )
