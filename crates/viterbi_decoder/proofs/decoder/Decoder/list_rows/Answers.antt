use Rattle.std.proofs.Common.{◌+◌, ◌<◌, length, set, get_or, arith, sym, subst, ◌∙◌}
use Rattle.std.proofs.lemmas.List.{get_or_read, length-set}
use Rattle.std.proofs.lemmas.List.Elements.{All-set}
use Rattle.kind_model.specs.Trellis.{states_of}
use Rattle.viterbi_decoder.specs.Found.{AreListed}
use Rattle.viterbi_decoder.specs.Model.{trellis_of}
use Rattle.viterbi_decoder.proofs.TwoWays.{listed-more}
use Rattle.viterbi_decoder.proofs.decoder.Decoder.list_rows.Goals as goal

pub one_more-requires-clause-few : goal.one_more-requires-clause-few
one_more-requires-clause-few c =
    let d = c.args.self.now in
    let row = c.loop-row.row in
    let lt : row < length d.next.items = omega (arith, c.loop-row-test.true) in
    let to_is = sym (get_or_read d.next.items row _ lt c.index.ensures 0) ∙ sym c.from-to.ensures in
    let within : c.from-to.result < states_of (trellis_of d) = subst (λ n. n < states_of (trellis_of d)) to_is (d.is.states row 0 lt) in
    c.loop-row.invariant.listed.few c.from-to.result within

pub loop-row-preserved : goal.loop-row-preserved
loop-row-preserved c =
    let d = c.args.self.now in
    let m = trellis_of d in
    let row = c.loop-row.row in
    let is = c.loop-row.invariant in
    let to = c.from-to.result in
    let counts = c.loop-row.counts in
    let early = c.loop-row.early in
    let late = c.loop-row.late in
    let lt : row < length d.next.items = omega (arith, c.loop-row-test.true) in
    let to_is = sym (get_or_read d.next.items row _ lt c.index.ensures 0) ∙ sym c.from-to.ensures in
    let within : to < states_of m = subst (λ n. n < states_of m) to_is (d.is.states row 0 lt) in
    let counts_long : to < length counts = omega (arith, within, is.counts_len, c.requires.counts) in
    let early_long : to < length early = omega (arith, within, is.early_len, c.requires.early) in
    let late_long : to < length late = omega (arith, within, is.late_len, c.requires.late) in
    record {
      counts_len = length-set counts to c.one_more.result ∙ is.counts_len;
      early_len = length-set early to (get_or late to 0) ∙ is.early_len;
      late_len = length-set late to row ∙ is.late_len;
      listed = subst (λ n. AreListed m (row + 1) (set counts to n) (set early to (get_or late to 0)) (set late to row)) (sym c.one_more.ensures)
          (listed-more m row to counts early late to_is is.listed counts_long early_long late_long);
      early_rows = record { each = All-set (λ r. r < length m.next) early to (get_or late to 0) (is.late_rows.each to 0 late_long) is.early_rows.each };
      late_rows = record { each = All-set (λ r. r < length m.next) late to row lt is.late_rows.each };
    }
