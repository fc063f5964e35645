use Rattle.std.proofs.Common.{◌≡◌, ◌∷◌, [], ◌++◌, map, arith, ap, sym, ◌∙◌}
use Rattle.std.proofs.lemmas.List.FromFn.{map-range_with_len_more}
use Rattle.stream_model.specs.Lists.{below}
use Rattle.code_blocks.specs.Divided.{entry}
use Rattle.code_blocks.proofs.division.Division.new.Goals as goal

pub loop-top-preserved : goal.loop-top-preserved
loop-top-preserved c =
    let made = entry c.args.bits c.args.polynomial in
    let top = c.loop-top.top in
    record {
      entries = c.push_reserved.ensures.items
          ∙ (λ i. c.loop-top.invariant.entries i ++ c.entry_of.ensures i ∷ [])
          ∙ sym (map-range_with_len_more made 0 top top (omega arith));
      len = omega (arith, c.push_reserved.ensures.len, c.loop-top.invariant.len);
      room = omega (arith, c.push_reserved.ensures.capacity, c.loop-top.invariant.room);
    }

pub invariant_of-result : goal.invariant_of-result
invariant_of-result c =
    let whole : c.loop-top.top ≡ 256 = omega (arith, c.loop-top-test.false, c.loop-top.auto.top-end) in
    record {
      least = c.requires.least;
      most = c.requires.most;
      small = c.requires.small;
      entries = c.loop-top.invariant.entries ∙ ap (λ n. map (entry c.args.bits c.args.polynomial) (below n)) whole;
    }
