use Rattle.std.proofs.Common.{◌≡◌, ◌-◌, ◌+◌, ◌≤◌, suc, length, None, arith, ap, sym, ◌∙◌}
use Rattle.std.proofs.lemmas.List.{length-replicate, length-set}
use Rattle.graph_model.specs.Rates.{ratios_by}
use Rattle.rates.specs.Tables.{ratio_of, known_of}
use Rattle.rates.proofs.Turning.{large_over, large_under, small_is, turn-large, turn-small, known_none, none_small, set_small}
use Rattle.rates.proofs.ratios.find_ratios.Goals as goal
use Rattle.rates.proofs.ratios.find_ratios.Goals.{then-ratio-gt-LIMIT-via-then-ratio-gt-LIMIT, then-ratio-gt-LIMIT-via-else-ratio-gt-LIMIT+then-ratio-gt-LIMIT-2}

pub loop-turn-init : goal.loop-turn-init
loop-turn-init g c =
    record {
      same = ap (λ n. ratios_by n g.net (known_of c.args.known.now)) (omega arith) ∙ ap (λ ks. ratios_by (length g.net.nodes) g.net (known_of ks)) c.requires.none ∙ ap (λ ks. ratios_by (length g.net.nodes) g.net ks) (known_none (length g.net.nodes));
      long = ap length c.requires.none ∙ length-replicate (length g.net.nodes) None;
      small = rw c.requires.none (none_small (length g.net.nodes) (length g.net.nodes));
    }

pub returns-then-ratio-gt-LIMIT-clause-large : goal.returns-then-ratio-gt-LIMIT-clause-large
returns-then-ratio-gt-LIMIT-clause-large g c =
    let long = c.loop-turn.invariant.long in
    let left : length g.net.nodes - c.loop-turn._turn ≡ suc (length g.net.nodes - (c.loop-turn._turn + 1)) = omega arith in
    let large = turn-large g.net c.loop-turn.known (length g.net.nodes - (c.loop-turn._turn + 1)) (length g.net.nodes - c.loop-turn._turn) left (c.in-Some.block, ratio_of c.in-Some.ratio) c.in-Some.ensures.next in
    elim c.then-ratio-gt-LIMIT.branch [
      | then-ratio-gt-LIMIT-via-then-ratio-gt-LIMIT w ↦ (λ _. sym c.loop-turn.invariant.same ∙ large (large_over c.in-Some.ratio w.if-ratio-gt-LIMIT.true))
      | then-ratio-gt-LIMIT-via-else-ratio-gt-LIMIT+then-ratio-gt-LIMIT-2 w ↦ (λ _. sym c.loop-turn.invariant.same ∙ large (large_under c.in-Some.ratio w.if-ratio-gt-LIMIT-2.true))
    ]

pub loop-turn-preserved : goal.loop-turn-preserved
loop-turn-preserved g c =
    let long = c.loop-turn.invariant.long in
    let left : length g.net.nodes - c.loop-turn._turn ≡ suc (length g.net.nodes - (c.loop-turn._turn + 1)) = omega arith in
    let fits = c.in-Some.ensures.fits in
    let in' = fits.0 in
    let over : c.in-Some.ratio.over ≤ 65536 = omega arith in
    let under : c.in-Some.ratio.under ≤ 65536 = omega arith in
    record {
      same = turn-small g.net c.loop-turn.known (length g.net.nodes - (c.loop-turn._turn + 1)) (length g.net.nodes - c.loop-turn._turn) left c.in-Some.block c.in-Some.ratio c.in-Some.ensures.next
          (small_is c.in-Some.ratio over under) ∙ c.loop-turn.invariant.same;
      long = length-set c.loop-turn.known c.in-Some.block _ ∙ long;
      small = set_small (length g.net.nodes) c.loop-turn.known c.in-Some.block c.in-Some.ratio c.loop-turn.invariant.small
          (record { part = fits.1; over_some = fits.2; over_few = over; under_some = fits.3; under_few = under }) (omega arith);
    }
