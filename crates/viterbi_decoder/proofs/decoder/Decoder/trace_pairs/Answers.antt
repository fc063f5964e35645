use Rattle.std.proofs.Common.{◌≡◌, ◌+◌, ◌-◌, ◌*◌, ◌/◌, ◌%◌, ◌<◌, false, length, drop, Some, inl, inr, refl, arith, ap, sym, subst, ◌∙◌}
use Rattle.std.specs.Prelude.{slice_index_or, if◌then◌else◌}
use Rattle.std.proofs.lemmas.Bool.{cases_lt}
use Rattle.std.proofs.lemmas.Nat.{div_below}
use Rattle.std.proofs.lemmas.List.{length-set, get_or-set_other}
use Rattle.std.proofs.lemmas.Grind.{get_or-set_at}
use Rattle.kind_model.specs.Trellis.{states_of, symbol_at}
use Rattle.viterbi_decoder.specs.Found.{found, row_of_two}
use Rattle.viterbi_decoder.specs.Model.{trellis_of}
use Rattle.viterbi_decoder.proofs.Traced.{traced-path, traced-symbol}
use Rattle.viterbi_decoder.proofs.TwoWays.{chosen-of, chosen-below}
use Rattle.viterbi_decoder.proofs.decoder.Decoder.trace_pairs.Goals as goal

pub loop-back-preserved : goal.loop-back-preserved
loop-back-preserved c =
    let d = c.args.self.now in
    let m = trellis_of d in
    let back = c.loop-back.back in
    let step = m.steps - 1 - back in
    let state = c.loop-back.state in
    let early = c.args.early.now in
    let late = c.args.late.now in
    let are_late = c.args.are_late.now in
    let is = c.loop-back.invariant in
    let less : back < m.steps = omega arith in
    let row_at = row_of_two m early.rows late.rows are_late in
    let row = row_at step state in
    let first = slice_index_or early.rows state 0 in
    let second = slice_index_or late.rows state 0 in
    let is_late = slice_index_or are_late (step * d.states + state) false in
    let row_is : (if is_late then second else first) ≡ row =
    ap (λ n. if slice_index_or are_late (step * n + state) false then second else first) d.states_are in
    let symbol_is : c.chosen.result ≡ row % m.symbols =
    c.chosen.ensures
    ∙ chosen-of (λ r. r % m.symbols) is_late second first (slice_index_or late.symbols state 0)
    (slice_index_or early.symbols state 0)
    (c.requires.late.symbols_are state is.within) (c.requires.early.symbols_are state is.within)
    ∙ ap (λ r. r % m.symbols) row_is in
    let from_is : c.from-state.result ≡ row / m.symbols =
    c.from-state.ensures ∙ c.chosen-in-loop-back.ensures
    ∙ chosen-of (λ r. r / m.symbols) is_late second first (slice_index_or late.from state 0)
    (slice_index_or early.from state 0)
    (c.requires.late.from_are state is.within) (c.requires.early.from_are state is.within)
    ∙ ap (λ r. r / m.symbols) row_is in
    let in_table : row < length m.next =
    subst (λ r. r < length m.next) row_is
    (chosen-below (length m.next) is_late second first (c.requires.late.rows_are state is.within)
    (c.requires.early.rows_are state is.within)) in
    record {
      len = length-set c.loop-back.out step c.chosen.result ∙ is.len;
      within = subst (λ s. s < states_of m) (sym from_is)
          (div_below row m.symbols (states_of m) (omega (arith, d.is.some)) (omega (arith, d.is.whole, in_table)));
      path = λ x p lasts e.
          subst (λ s. found m x (m.steps - (back + 1)) s ≡ Some (drop (back + 1) p)) (sym from_is)
          (traced-path m x row_at p back state row lasts less is.within refl (is.path x p lasts e));
      written = λ x p lasts e j from to.
          elim (cases_lt step j) [
            | inl later ↦
                get_or-set_other c.loop-back.out step j c.chosen.result 0 (λ same. omega (arith, same, later)) ∙
                is.written x p lasts e j (omega (arith, later)) to
            | inr now ↦
                let here : j ≡ step = omega (arith, now, from) in
                get_or-set_at c.loop-back.out step j c.chosen.result 0 here
                (omega (arith, is.len, c.requires.out, less))
                ∙ symbol_is
                ∙ traced-symbol m x row_at p back state row lasts less is.within refl (is.path x p lasts e) ∙ ap
                (symbol_at m (Some p)) (sym here)
          ];
    }
