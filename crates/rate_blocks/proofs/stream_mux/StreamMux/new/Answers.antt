use Rattle.std.proofs.Common.{refl, sym, ap, subst, arith, sum, List, ℕ}
use Rattle.kind_model.specs.Rates.{IsMux}
use Rattle.rate_blocks.proofs.Muxed.{lengths-in_range, few-each, mux-in_range}
use Rattle.rate_blocks.proofs.stream_mux.StreamMux.new.Goals as goal

pub returns-then-not-are_in_range-clause-range : goal.returns-then-not-are_in_range-clause-range
returns-then-not-are_in_range-clause-range c = (λ e. (cc), λ are. c.if-not-are_in_range.ensures.1 (lengths-in_range c.args.lengths.now are))

pub sum_of-requires-clause-small : goal.sum_of-requires-clause-small
sum_of-requires-clause-small c = few-each c.args.lengths.now _ c.counts-lengths.ensures.counts (c.if-not-are_in_range.ensures.0 refl).2

pub invariant_of-result : goal.invariant_of-result
invariant_of-result c =
    let range = c.if-not-are_in_range.ensures.0 refl in
    record {
      counted = range.1;
      whole = c.counts-lengths.ensures.whole;
      is_mux = subst IsMux (sym c.counts-lengths.ensures.counts)
          (mux-in_range c.args.lengths.now range (omega (arith, c.sum_of.ensures, ap (λ (ls : List ℕ). sum ls) c.counts-lengths.ensures.counts, c.if-sum_of-gt1024.false)));
    }
