use Rattle.std.proofs.Common.{◌<◌, ◌≤◌, ◌^◌, ◌+◌, map, drop, length, arith, ap, sym, ◌∙◌, get_or, refl, subst}
use Rattle.graph_laws.proofs.Divisors.{lcm-some}
use Rattle.std.proofs.lemmas.List.{length-set}
use Rattle.rates.specs.Tables.{ratio_of}
use Rattle.rates.proofs.Wholes.{no_fraction, whole_from, whole_next, table_next, entry_next, too_whole, whole_above}
use Rattle.rates.proofs.firings.find_wholes.Goals as goal

pub returns-then-whole-gt-MOST_WHOLE-clause-large : goal.returns-then-whole-gt-MOST_WHOLE-clause-large
returns-then-whole-gt-MOST_WHOLE-clause-large g c = λ _.
    let k = c.loop-ratio.ratio-index in
    let f = get_or c.args.ratios.now k no_fraction in
    let small = c.requires.have.small k no_fraction c.loop-ratio-test.true in
    let above = whole_above g.net c.args.ratios.now c.requires.have f.part (get_or c.loop-ratio.wholes f.part 0) k c.loop-ratio-test.true (c.loop-ratio.invariant.some f.part small.part) refl c.lcm-whole.result c.lcm-whole.ensures
    (c.loop-ratio.invariant.each f.part small.part) in
    too_whole g.net c.args.ratios.now c.requires.have k c.loop-ratio-test.true (omega arith)

pub loop-ratio-preserved : goal.loop-ratio-preserved
loop-ratio-preserved g c =
    let k = c.loop-ratio.ratio-index in
    let f = get_or c.args.ratios.now k no_fraction in
    let small = c.requires.have.small k no_fraction c.loop-ratio-test.true in
    let part = small.part in
    let long = c.loop-ratio.invariant.long in
    let in' : f.part < length c.loop-ratio.wholes = omega arith in
    let some : 1 ≤ c.lcm-whole.result = subst (λ x. 1 ≤ x) (sym c.lcm-whole.ensures) (lcm-some (get_or c.loop-ratio.wholes f.part 0) f.under (c.loop-ratio.invariant.some f.part part) small.under_some) in
    record {
      long = length-set c.loop-ratio.wholes f.part c.lcm-whole.result ∙ long;
      each = λ p h. ap (λ n. whole_from p n (map ratio_of (drop (k + 1) c.args.ratios.now))) (table_next c.loop-ratio.wholes f c.lcm-whole.result p in' c.lcm-whole.ensures)
          ∙ sym (whole_next p (get_or c.loop-ratio.wholes p 0) c.args.ratios.now k c.loop-ratio-test.true) ∙ c.loop-ratio.invariant.each p h;
      some = λ p h. entry_next (λ x. 1 ≤ x) c.loop-ratio.wholes f.part c.lcm-whole.result p in' some (c.loop-ratio.invariant.some p h);
      few = λ p h. entry_next (λ x. x ≤ 2 ^ 33) c.loop-ratio.wholes f.part c.lcm-whole.result p in' (omega arith) (c.loop-ratio.invariant.few p h);
    }
