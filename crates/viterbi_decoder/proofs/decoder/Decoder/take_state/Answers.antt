use Rattle.std.proofs.Common.{◌≡◌, ◌+◌, ◌*◌, ◌/◌, map, w64, to_z, of_z, arith, refl, sym, subst, ◌∙◌}
use Rattle.std.proofs.lemmas.Nat.{div-mul-add}
use Rattle.viterbi_decoder.specs.Found.{found, IsSum, AreHeld}
use Rattle.viterbi_decoder.specs.Model.{trellis_of}
use Rattle.viterbi_decoder.proofs.Compared.{sum-same}
use Rattle.viterbi_decoder.proofs.Costs.{few-steps}
use Rattle.viterbi_decoder.proofs.Rows.{row-end}
use Rattle.viterbi_decoder.proofs.decoder.Decoder.take_state.Goals as goal

pub take_row-requires-clause-sum : goal.take_row-requires-clause-sum
take_row-requires-clause-sum g c =
    let d = c.args.self.now in
    let m = trellis_of d in
    let x = map g.T.Number.number c.args.metrics.now in
    let k = c.args.step in
    let state = c.args.state in
    let sum = c.args.sum in
    let symbol = c.loop-symbol.symbol in
    let from : (state * d.symbols + symbol) / d.symbols ≡ state = div-mul-add state d.symbols symbol
    (omega (arith, c.loop-symbol-test.true)) in
    let most = few-steps m d.is in
    let same = sum-same m x k (found m x k state) sum (omega (arith, most, c.requires.step)) c.requires.sum in
    subst (λ s. IsSum m x k (found m x k s) (to_z w64 (of_z w64 sum))) (sym from)
    (subst (λ z. IsSum m x k (found m x k state) z) (sym same) c.requires.sum)

pub loop-symbol-init : goal.loop-symbol-init
loop-symbol-init g c =
    let d = c.args.self.now in
    let begun : c.args.state * d.symbols ≡ c.args.state * d.symbols + 0 = omega arith in
    record {
      len = refl;
      rows_len = refl;
      held = subst (λ n. AreHeld (trellis_of d) (map g.T.Number.number c.args.metrics.now) c.args.step n
          c.args.after.now c.args.rows.now) begun c.requires.held;
      stays = λ i h. refl;
      rows = c.requires.rows;
    }

pub loop-symbol-preserved : goal.loop-symbol-preserved
loop-symbol-preserved g c =
    let d = c.args.self.now in
    let m = trellis_of d in
    let x = map g.T.Number.number c.args.metrics.now in
    let k = c.args.step in
    let row = c.args.state * d.symbols + c.loop-symbol.symbol in
    let is = c.loop-symbol.invariant in
    let later : row + 1 ≡ c.args.state * d.symbols + (c.loop-symbol.symbol + 1) = omega arith in
    record {
      len = c.take_row.ensures.len ∙ is.len;
      rows_len = c.take_row.ensures.rows_len ∙ is.rows_len;
      held = subst (λ n. AreHeld m x k n c.take_row.new.after c.take_row.new.rows) later c.take_row.ensures.held;
      stays = λ i h. c.take_row.ensures.stays i h ∙ is.stays i h;
      rows = c.take_row.ensures.rows;
    }

pub returns-clause-held : goal.returns-clause-held
returns-clause-held g c =
    let d = c.args.self.now in
    let m = trellis_of d in
    let x = map g.T.Number.number c.args.metrics.now in
    let all : c.loop-symbol.symbol ≡ d.symbols = omega arith in
    subst (λ n. AreHeld m x c.args.step n c.loop-symbol.after c.loop-symbol.rows)
    (row-end c.args.state d.symbols c.loop-symbol.symbol all) c.loop-symbol.invariant.held
