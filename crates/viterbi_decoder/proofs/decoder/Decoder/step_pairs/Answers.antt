use Rattle.std.proofs.Common.{◌≡◌, map, arith}
use Rattle.kind_model.specs.Trellis.{states_of}
use Rattle.viterbi_decoder.specs.Found.{row_of_two}
use Rattle.viterbi_decoder.specs.Model.{trellis_of}
use Rattle.viterbi_decoder.proofs.TwoWays.{taken-sums, taken-rows}
use Rattle.viterbi_decoder.proofs.decoder.Decoder.step_pairs.Goals as goal

pub returns-clause-sums : goal.returns-clause-sums
returns-clause-sums g c =
    let d = c.args.self.now in
    let m = trellis_of d in
    let k = c.args.step in
    let all : c.loop-state.state ≡ states_of m = omega (arith, d.states_are) in
    taken-sums m (map g.T.Number.number c.args.metrics.now) k c.loop-state.state c.loop-state.after
    (row_of_two m c.args.early.now.rows c.args.late.now.rows c.loop-state.are_late k) all c.loop-state.invariant.taken

pub returns-clause-last : goal.returns-clause-last
returns-clause-last g c =
    let d = c.args.self.now in
    let m = trellis_of d in
    let is = c.loop-state.invariant in
    let all : c.loop-state.state ≡ states_of m = omega (arith, d.states_are) in
    taken-rows m (map g.T.Number.number c.args.metrics.now) c.args.step c.loop-state.state c.loop-state.after
    c.args.early.now.rows c.args.late.now.rows
    c.loop-state.are_late c.args.are_late.now all is.taken is.stays c.requires.last
