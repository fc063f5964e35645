use Rattle.std.proofs.Common.{◌≡◌, ◌<◌, ◌≤◌, ◌*◌, ◌/◌, length, map, arith, ap, sym, ◌∙◌, get_or, subst, below_more}
use Rattle.stream_model.specs.Firings.{gives as gives_of}
use Rattle.std.proofs.lemmas.List.{length-set, length-map, get_or-set_same, get_or-set_other, same_lists, get_or_default}
use Rattle.graph_model.specs.Rates.{Ratio, whole_of, firings_of}
use Rattle.stream_model.specs.Network.{node_at}
use Rattle.rates.specs.declared.tables.Supply.{Supply}
use Rattle.rates.specs.Tables.{ratio_of}
use Rattle.rates.proofs.Facts.{no_supply, supply_is, gives_within}
use Rattle.rates.proofs.Wholes.{no_fraction, twice, firings_at, many_firings, many_items, few_all}
use Rattle.rates.proofs.firings.find_firings.Goals as goal
use Rattle.rates.proofs.firings.find_firings.Goals.{then-fires-gt-LIMIT-via-then-fires-gt-LIMIT, then-fires-gt-LIMIT-via-else-fires-gt-LIMIT+then-fires-supplies-gt-LIMIT}

pub overflow_mul-fires : goal.overflow_mul-fires
overflow_mul-fires g c =
    let k = c.loop-block.block in
    let long = c.requires.have.long in
    let gives = ap (λ (p : Supply). p.gives) (supply_is g.net c.args.supplies.now c.requires.table k (omega arith)) in
    let few = (gives_within (node_at g.net k) (c.requires.have.rates.can.sound k) (c.requires.have.rates.few k)).1 in
    let most = twice c.count-fires.result (get_or c.args.supplies.now k no_supply).gives (omega arith) (omega arith) in
    omega arith

pub returns-then-fires-gt-LIMIT-clause-large : goal.returns-then-fires-gt-LIMIT-clause-large
returns-then-fires-gt-LIMIT-clause-large g c = λ _.
    let k = c.loop-block.block in
    let long = c.requires.have.long in
    let in' = c.loop-block-test.true in
    let f = get_or c.args.ratios.now k no_fraction in
    let small = c.requires.have.small k no_fraction in' in
    let fires : c.count-fires.result ≡ get_or (firings_of (map ratio_of c.args.ratios.now)) k 0 =
    c.count-fires.ensures ∙ ap (λ w. w / f.under * f.over) (c.requires.parts.each f.part small.part) ∙ sym (firings_at c.args.ratios.now k in') in
    let gives = ap (λ (p : Supply). p.gives) (supply_is g.net c.args.supplies.now c.requires.table k (omega arith)) in
    elim c.then-fires-gt-LIMIT.branch [
      | then-fires-gt-LIMIT-via-then-fires-gt-LIMIT w ↦ many_firings g.net (firings_of (map ratio_of c.args.ratios.now)) k (omega arith) (let t = w.if-fires-gt-LIMIT.true in omega arith)
      | then-fires-gt-LIMIT-via-else-fires-gt-LIMIT+then-fires-supplies-gt-LIMIT w ↦ many_items g.net (firings_of (map ratio_of c.args.ratios.now)) k (omega arith)
          (subst (λ x. 65536 < x) (ap (λ x. x * (get_or c.args.supplies.now k no_supply).gives) fires ∙ ap (λ x. get_or (firings_of (map ratio_of c.args.ratios.now)) k 0 * x) gives) w.if-fires-supplies-gt-LIMIT.true)
    ]

pub loop-block-preserved : goal.loop-block-preserved
loop-block-preserved g c =
    let k = c.loop-block.block in
    let long = c.requires.have.long in
    let room = c.loop-block.invariant.long in
    let in' = c.loop-block-test.true in
    let f = get_or c.args.ratios.now k no_fraction in
    let small = c.requires.have.small k no_fraction in' in
    let fires : c.count-fires.result ≡ get_or (firings_of (map ratio_of c.args.ratios.now)) k 0 =
    c.count-fires.ensures ∙ ap (λ w. w / f.under * f.over) (c.requires.parts.each f.part small.part) ∙ sym (firings_at c.args.ratios.now k in') in
    let gives = ap (λ (p : Supply). p.gives) (supply_is g.net c.args.supplies.now c.requires.table k (omega arith)) in
    let same = get_or-set_same c.loop-block.firings k c.count-fires.result 0 (omega arith) in
    let few : c.count-fires.result ≤ 65536 = omega arith in
    let items : c.count-fires.result * (get_or c.args.supplies.now k no_supply).gives ≤ 65536 = omega arith in
    record {
      long = length-set c.loop-block.firings k c.count-fires.result ∙ room;
      each = below_more _ _ (λ j h. get_or-set_other c.loop-block.firings k j c.count-fires.result 0 (λ e. omega arith) ∙ c.loop-block.invariant.each j h) (same ∙ fires);
      few = below_more _ _
          (λ j h. subst (λ x. (x ≤ 65536) × (x * gives_of (node_at g.net j) ≤ 65536)) (sym (get_or-set_other c.loop-block.firings k j c.count-fires.result 0 (λ e. omega arith))) (c.loop-block.invariant.few j h))
          (subst (λ x. (x ≤ 65536) × (x * gives_of (node_at g.net k) ≤ 65536)) (sym same) (few, subst (λ x. c.count-fires.result * x ≤ 65536) gives items));
    }

pub returns-clause-found : goal.returns-clause-found
returns-clause-found g c = λ _.
    let long = c.requires.have.long in
    let room = c.loop-block.invariant.long in
    let end = c.loop-block-test.false in
    let wide = length-map (map ratio_of c.args.ratios.now) (λ (r : Ratio). whole_of (map ratio_of c.args.ratios.now) r.part / r.under * r.over) ∙ length-map c.args.ratios.now ratio_of in
    record {
      are = same_lists c.loop-block.firings (firings_of (map ratio_of c.args.ratios.now)) (omega arith)
          (λ k d lt. let inside : k < length (firings_of (map ratio_of c.args.ratios.now)) = omega arith in
          get_or_default c.loop-block.firings k d 0 lt ∙ c.loop-block.invariant.each k (omega arith) ∙ sym (get_or_default (firings_of (map ratio_of c.args.ratios.now)) k d 0 inside));
      few = few_all g.net c.loop-block.firings (λ k h. c.loop-block.invariant.few k (omega arith));
    }
