use Rattle.std.proofs.Common.{◌+◌, ◌<◌, true, false, Vec, length, arith, ap, sym, ◌∙◌, get_or, set, subst}
use Rattle.std.proofs.lemmas.List.{length-map}
use Rattle.rates.specs.declared.tables.Link.{Link}
use Rattle.rates.specs.Tables.{link_of, connection_at}
use Rattle.rates.proofs.Facts.{link_is}
use Rattle.rates.proofs.Following.{true_false}
use Rattle.rates.proofs.Ordering.{IsPlacing, place_one, place_none}
use Rattle.rates.proofs.order.place.Goals as goal
use Rattle.rates.proofs.order.place.Goals.{then-not-placed-number+then-ready-link+in_ok-push, else-not-placed-number, else-not-placed-number-via-then-not-placed-number+else-ready-link, else-not-placed-number-via-else-not-placed-number}

pub loop-number-preserved : goal.loop-number-preserved
loop-number-preserved g c =
    let n = c.loop-number.number in
    let long = ap length c.requires.table ∙ length-map g.net.connections (link_of g.net) in
    let in' : n < length g.net.connections = omega arith in
    let from = ap (λ (l : Link). get_or c.args.ready.now l.from false) (link_is g.net c.requires.rates c.args.links.now c.requires.table n c.loop-number-test.true) in
    elim c.if-not-placed-number.branch [
      | then-not-placed-number+then-ready-link+in_ok-push w ↦
          subst (λ ps. IsPlacing g.net c.args.ready.now c.args.placed.now ps c.if-not-placed-number.order.items (n + 1)) (sym w.placed-is)
          (subst (λ os. IsPlacing g.net c.args.ready.now c.args.placed.now (set c.loop-number.placed n true) os (n + 1)) (sym (ap (λ (v : Vec _ _). v.items) w.order-is ∙ w.in_ok-push.ensures.items))
          (place_one g.net c.args.ready.now c.args.placed.now c.loop-number.placed c.loop-number.order.items n c.loop-number.invariant c.requires.known in' (sym from ∙ w.if-ready-link.true)))
      | else-not-placed-number w ↦
          subst (λ ps. IsPlacing g.net c.args.ready.now c.args.placed.now ps c.if-not-placed-number.order.items (n + 1)) (sym w.placed-is)
          (subst (λ os. IsPlacing g.net c.args.ready.now c.args.placed.now c.loop-number.placed os (n + 1)) (sym (ap (λ (v : Vec _ _). v.items) w.order-is))
          (place_none g.net c.args.ready.now c.args.placed.now c.loop-number.placed c.loop-number.order.items n c.loop-number.invariant
          (λ e. elim w.else-not-placed-number.branch [
            | else-not-placed-number-via-then-not-placed-number+else-ready-link w' ↦ absurd (true_false (get_or c.args.ready.now (connection_at g.net n).from false) e (sym from ∙ w'.if-ready-link.false))
            | else-not-placed-number-via-else-not-placed-number w' ↦ w'.if-not-placed-number.false
          ])))
    ]
