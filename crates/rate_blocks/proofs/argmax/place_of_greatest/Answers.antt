use Rattle.std.proofs.Common.{◌+◌, ◌<◌, ◌∙◌, length, map, take, arith, ap, subst, sym}
use Rattle.std.proofs.lemmas.Int.{ints}
use Rattle.std.proofs.lemmas.List.{length-map}
use Rattle.stream_model.specs.Numbers.{IsItem, least_of}
use Rattle.kind_model.specs.Rates.{place_of}
use Rattle.item_dispatch.proofs.Written.{read_item}
use Rattle.rate_blocks.proofs.Chosen.{first_alone, greater_comes, none_comes}
use Rattle.rate_blocks.proofs.argmax.place_of_greatest.Goals as goal
use Rattle.rate_blocks.proofs.argmax.place_of_greatest.Goals.{then-widen, else-widen}

pub loop-k-init : goal.loop-k-init
loop-k-init g c =
    let number = g.T.Number.number in
    let t = g.T.Number.kind in
    let items = c.args.items.now in
    let first = c.index-items-0.result in
    let some : 0 < length (map number items) = omega (arith, length-map items number, c.requires) in
    let fits = subst (λ y. IsItem t (number y)) (sym c.index-items-0.is) (c.are_in_range.ensures 0 first (omega (arith, c.requires))) in
    let both = first_alone t (map number items) (number first) some fits (read_item number items 0 first c.index-items-0.is (omega (arith, c.requires))) in
    record { greatest = both.0; place = both.1; before = omega arith }

pub loop-k-preserved : goal.loop-k-preserved
loop-k-preserved g c =
    let number = g.T.Number.number in
    let t = g.T.Number.kind in
    let xs = map number c.args.items.now in
    let k = c.loop-k.k in
    let s = number c.loop-k.greatest in
    let x = number c.index-items-k.result in
    let within : k < length xs = omega (arith, length-map c.args.items.now number, c.loop-k-test.true) in
    let is = read_item number c.args.items.now k c.index-items-k.result c.index-items-k.is c.loop-k-test.true in
    elim c.if-widen.branch [
      | then-widen w ↦
          let both =
          greater_comes (least_of t) xs k c.loop-k.place s x within c.loop-k.invariant.greatest is
          (omega (arith, ints, w.if-widen, c.widen.ensures.value, c.widen-in-loop-k.ensures.value)) in
          record {
            greatest = ap number w.greatest-is ∙ both.0;
            place = w.place-is ∙ both.1 ∙ ap (λ z. place_of z (take (k + 1) xs)) (sym (ap number w.greatest-is));
            before = omega (arith, w.place-is);
          }
      | else-widen w ↦
          let both =
          none_comes (least_of t) xs k c.loop-k.place s x within c.loop-k.invariant.greatest is
          (omega (arith, ints, w.if-widen, c.widen.ensures.value, c.widen-in-loop-k.ensures.value)) c.loop-k.invariant.place c.loop-k.invariant.before in
          record {
            greatest = ap number w.greatest-is ∙ both.0;
            place = w.place-is ∙ both.1 ∙ ap (λ z. place_of z (take (k + 1) xs)) (sym (ap number w.greatest-is));
            before = omega (arith, w.place-is, c.loop-k.invariant.before);
          }
    ]
