use Rattle.std.proofs.Common.{◌≡◌, ◌<◌, length, arith, get_or, subst}
use Rattle.rates.proofs.Passing.{IsPassed}
use Rattle.rates.proofs.Following.{start, number_in, fits_at, supplies_long, held, ahead_is, next, finish}
use Rattle.rates.proofs.counts.pass.Goals as goal

pub loop-number-init : goal.loop-number-init
loop-number-init g c = start g.net c.args.supplies.now c.args.links.now c.args.order.now c.args.firings.now c.args.step c.args.before.now c.args.after.now c.args.needed.now c.requires

pub offset_bounds-supplies-link : goal.offset_bounds-supplies-link
offset_bounds-supplies-link g c =
    let fits = fits_at g.net c.args.supplies.now c.args.links.now c.args.order.now c.args.firings.now c.args.step c.args.before.now c.args.after.now c.args.needed.now c.requires c.loop-number.number-index c.loop-number-test.true in
    let end = fits.from in
    let long = supplies_long g.net c.args.supplies.now c.args.links.now c.args.order.now c.args.firings.now c.args.step c.args.before.now c.args.after.now c.args.needed.now c.requires in
    omega arith

pub bounds-supplies-link : goal.bounds-supplies-link
bounds-supplies-link g c =
    let fits = fits_at g.net c.args.supplies.now c.args.links.now c.args.order.now c.args.firings.now c.args.step c.args.before.now c.args.after.now c.args.needed.now c.requires c.loop-number.number-index c.loop-number-test.true in
    let end = fits.from in
    let long = supplies_long g.net c.args.supplies.now c.args.links.now c.args.order.now c.args.firings.now c.args.step c.args.before.now c.args.after.now c.args.needed.now c.requires in
    omega arith

pub offset_bounds-supplies-link-in-loop-number : goal.offset_bounds-supplies-link-in-loop-number
offset_bounds-supplies-link-in-loop-number g c =
    let fits = fits_at g.net c.args.supplies.now c.args.links.now c.args.order.now c.args.firings.now c.args.step c.args.before.now c.args.after.now c.args.needed.now c.requires c.loop-number.number-index c.loop-number-test.true in
    let end = fits.to in
    let long = supplies_long g.net c.args.supplies.now c.args.links.now c.args.order.now c.args.firings.now c.args.step c.args.before.now c.args.after.now c.args.needed.now c.requires in
    omega arith

pub bounds-supplies-link-in-loop-number : goal.bounds-supplies-link-in-loop-number
bounds-supplies-link-in-loop-number g c =
    let fits = fits_at g.net c.args.supplies.now c.args.links.now c.args.order.now c.args.firings.now c.args.step c.args.before.now c.args.after.now c.args.needed.now c.requires c.loop-number.number-index c.loop-number-test.true in
    let end = fits.to in
    let long = supplies_long g.net c.args.supplies.now c.args.links.now c.args.order.now c.args.firings.now c.args.step c.args.before.now c.args.after.now c.args.needed.now c.requires in
    omega arith

pub offset_bounds-before-link : goal.offset_bounds-before-link
offset_bounds-before-link g c =
    let fits = fits_at g.net c.args.supplies.now c.args.links.now c.args.order.now c.args.firings.now c.args.step c.args.before.now c.args.after.now c.args.needed.now c.requires c.loop-number.number-index c.loop-number-test.true in
    let end = fits.to in
    let long = supplies_long g.net c.args.supplies.now c.args.links.now c.args.order.now c.args.firings.now c.args.step c.args.before.now c.args.after.now c.args.needed.now c.requires in
    omega arith

pub offset_bounds-after-link : goal.offset_bounds-after-link
offset_bounds-after-link g c =
    let fits = fits_at g.net c.args.supplies.now c.args.links.now c.args.order.now c.args.firings.now c.args.step c.args.before.now c.args.after.now c.args.needed.now c.requires c.loop-number.number-index c.loop-number-test.true in
    let end = fits.from in
    let long = supplies_long g.net c.args.supplies.now c.args.links.now c.args.order.now c.args.firings.now c.args.step c.args.before.now c.args.after.now c.args.needed.now c.requires in
    omega arith

pub bounds-before-link : goal.bounds-before-link
bounds-before-link g c =
    let to = (fits_at g.net c.args.supplies.now c.args.links.now c.args.order.now c.args.firings.now c.args.step c.args.before.now c.args.after.now c.args.needed.now c.requires c.loop-number.number-index c.loop-number-test.true).to in
    let long = c.requires.counts.before_long in
    omega arith

pub bounds-after-link : goal.bounds-after-link
bounds-after-link g c =
    let from = (fits_at g.net c.args.supplies.now c.args.links.now c.args.order.now c.args.firings.now c.args.step c.args.before.now c.args.after.now c.args.needed.now c.requires c.loop-number.number-index c.loop-number-test.true).from in
    let long = c.loop-number.invariant.long in
    omega arith

pub follow-f-requires : goal.follow-f-requires
follow-f-requires g c =
    held g.net c.args.supplies.now c.args.links.now c.args.order.now c.args.firings.now c.args.step c.args.before.now c.args.after.now c.args.needed.now c.requires c.loop-number.number-index c.loop-number-test.true c.loop-number.after c.loop-number.needed c.loop-number.invariant

pub returns-then-f-gt-LIMIT-clause-far : goal.returns-then-f-gt-LIMIT-clause-far
returns-then-f-gt-LIMIT-clause-far g c =
    λ _. record { number = get_or c.args.order.now c.loop-number.number-index 0; in_net = number_in g.net c.args.supplies.now c.args.links.now c.args.order.now c.args.firings.now c.args.step c.args.before.now c.args.after.now c.args.needed.now c.requires c.loop-number.number-index c.loop-number-test.true; far = subst (λ n. 65536 < n) (ahead_is g.net c.args.supplies.now c.args.links.now c.args.order.now c.args.firings.now c.args.step c.args.before.now c.args.after.now c.args.needed.now c.requires c.loop-number.number-index c.loop-number-test.true c.loop-number.after c.loop-number.needed c.loop-number.invariant c.follow-f.result c.follow-f.ensures) c.if-f-gt-LIMIT.true }

pub loop-number-preserved : goal.loop-number-preserved
loop-number-preserved g c =
    next g.net c.args.supplies.now c.args.links.now c.args.order.now c.args.firings.now c.args.step c.args.before.now c.args.after.now c.args.needed.now c.requires c.loop-number.number-index c.loop-number-test.true c.loop-number.after c.loop-number.needed c.loop-number.invariant c.follow-f.result c.follow-f.ensures (omega arith) c.min.result c.min.ensures c.max.result c.max.ensures

pub returns-clause-done : goal.returns-clause-done
returns-clause-done g c =
    let end : c.loop-number.number-index ≡ length c.args.order.now = (let stop = c.loop-number-test.false in omega arith) in
    λ _. finish g.net c.args.supplies.now c.args.links.now c.args.order.now c.args.firings.now c.args.step c.args.before.now c.args.after.now c.args.needed.now c.requires c.loop-number.after c.loop-number.needed
    (subst (λ n. IsPassed g.net c.args.order.now c.args.firings.now c.args.step n c.loop-number.after c.args.needed.now c.loop-number.needed) end c.loop-number.invariant)
