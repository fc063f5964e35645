use Rattle.std.proofs.Common.{◌≡◌, ◌+◌, ◌-◌, ◌*◌, ◌%◌, ◌<◌, length, Some, inl, inr, arith, ap, sym, subst, ◌∙◌}
use Rattle.std.specs.Prelude.{slice_index_or}
use Rattle.std.proofs.lemmas.Bool.{cases_lt}
use Rattle.std.proofs.lemmas.Nat.{div_below}
use Rattle.std.proofs.lemmas.List.{length-set, get_or-set_other}
use Rattle.std.proofs.lemmas.Grind.{get_or-set_at}
use Rattle.kind_model.specs.Trellis.{states_of, symbol_at}
use Rattle.viterbi_decoder.specs.Found.{row_in}
use Rattle.viterbi_decoder.specs.Model.{trellis_of}
use Rattle.viterbi_decoder.proofs.Rows.{row-place}
use Rattle.viterbi_decoder.proofs.Traced.{traced-path, traced-symbol}
use Rattle.viterbi_decoder.proofs.decoder.Decoder.trace.Goals as goal

pub loop-back-preserved : goal.loop-back-preserved
loop-back-preserved c =
    let d = c.args.self.now in
    let m = trellis_of d in
    let back = c.loop-back.back in
    let step = m.steps - 1 - back in
    let state = c.loop-back.state in
    let rows = c.args.rows.now in
    let row = c.from-row.result in
    let is = c.loop-back.invariant in
    let less : back < m.steps = omega arith in
    let place = row-place m step state (omega (arith, less)) is.within in
    let row_is : slice_index_or rows (step * states_of m + state) 0 ≡ row = ap
    (λ n. slice_index_or rows (step * n + state) 0) (sym d.states_are) ∙ sym c.from-row.ensures in
    let in_table : row < length m.next = subst (λ r. r < length m.next) row_is
    (c.requires.rows.each (step * states_of m + state) 0 (omega (arith, place, c.requires.room))) in
    record {
      len = length-set c.loop-back.out step (row % m.symbols) ∙ is.len;
      within = div_below row m.symbols (states_of m) (omega (arith, d.is.some)) (omega (arith, d.is.whole, in_table));
      path = λ x p lasts e. traced-path m x (row_in m rows) p back state row lasts less is.within row_is
          (is.path x p lasts e);
      written = λ x p lasts e j from to.
          elim (cases_lt step j) [
            | inl later ↦ get_or-set_other c.loop-back.out step j (row % m.symbols) 0
                (λ same. omega (arith, same, later)) ∙ is.written x p lasts e j (omega (arith, later)) to
            | inr now ↦
                let here : j ≡ step = omega (arith, now, from) in
                get_or-set_at c.loop-back.out step j (row % m.symbols) 0 here
                (omega (arith, is.len, c.requires.out, less))
                ∙ traced-symbol m x (row_in m rows) p back state row lasts less is.within row_is (is.path x p lasts e) ∙
                ap (symbol_at m (Some p)) (sym here)
          ];
    }
