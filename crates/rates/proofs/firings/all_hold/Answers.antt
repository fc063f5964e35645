use Rattle.std.proofs.Common.{◌<◌, length, arith, ap, sym, ◌∙◌, below_more}
use Rattle.std.proofs.lemmas.List.{length-map, get_or_default}
use Rattle.std.proofs.lemmas.List.Sums.{list_all-from_AllPass}
use Rattle.graph_model.specs.Rates.{holds_on}
use Rattle.stream_model.specs.Network.{no_connection}
use Rattle.rates.specs.Tables.{ratio_of, link_of, connection_at}
use Rattle.rates.proofs.Facts.{link_is, table_fits}
use Rattle.rates.proofs.Wholes.{no_fraction, one_fails, holds_is}
use Rattle.std.proofs.Common.{map}
use Rattle.rates.proofs.firings.all_hold.Goals as goal

pub offset_bounds-ratios-link : goal.offset_bounds-ratios-link
offset_bounds-ratios-link g c =
    let from = (table_fits g.net c.requires.have.rates c.args.links.now c.requires.table c.loop-link.link-index c.loop-link-test.true).from in
    omega arith

pub bounds-ratios-link : goal.bounds-ratios-link
bounds-ratios-link g c =
    let from = (table_fits g.net c.requires.have.rates c.args.links.now c.requires.table c.loop-link.link-index c.loop-link-test.true).from in
    omega arith

pub offset_bounds-ratios-link-in-loop-link : goal.offset_bounds-ratios-link-in-loop-link
offset_bounds-ratios-link-in-loop-link g c =
    let to = (table_fits g.net c.requires.have.rates c.args.links.now c.requires.table c.loop-link.link-index c.loop-link-test.true).to in
    omega arith

pub bounds-ratios-link-in-loop-link : goal.bounds-ratios-link-in-loop-link
bounds-ratios-link-in-loop-link g c =
    let to = (table_fits g.net c.requires.have.rates c.args.links.now c.requires.table c.loop-link.link-index c.loop-link-test.true).to in
    omega arith

pub agree-requires : goal.agree-requires
agree-requires g c =
    let fits = table_fits g.net c.requires.have.rates c.args.links.now c.requires.table c.loop-link.link-index c.loop-link-test.true in
    let from = fits.from in
    let to = fits.to in
    let u = c.requires.have.small _ no_fraction (omega arith) in
    let v = c.requires.have.small _ no_fraction (omega arith) in
    record { over = (u.over_few, v.over_few); under = (u.under_few, v.under_few); items = (fits.gives_few, fits.takes_few) }

pub returns-then-not-agree : goal.returns-then-not-agree
returns-then-not-agree g c =
    let k = c.loop-link.link-index in
    let long = ap length c.requires.table ∙ length-map g.net.connections (link_of g.net) in
    let inside : k < length g.net.connections = omega arith in
    let ends = c.requires.have.rates.levels.rises k no_connection inside in
    let from = ends.0 in
    let to = ends.1 in
    let is = link_is g.net c.requires.have.rates c.args.links.now c.requires.table k c.loop-link-test.true in
    sym (one_fails (holds_on g.net (map ratio_of c.args.ratios.now)) g.net.connections k no_connection inside
    (holds_is g.net c.args.ratios.now (connection_at g.net k) (omega arith) (omega arith) _ is ∙ sym c.if-not-agree.ensures))

pub loop-link-preserved : goal.loop-link-preserved
loop-link-preserved g c =
    let k = c.loop-link.link-index in
    let long = ap length c.requires.table ∙ length-map g.net.connections (link_of g.net) in
    let inside : k < length g.net.connections = omega arith in
    let ends = c.requires.have.rates.levels.rises k no_connection inside in
    let from = ends.0 in
    let to = ends.1 in
    let is = link_is g.net c.requires.have.rates c.args.links.now c.requires.table k c.loop-link-test.true in
    below_more _ _ c.loop-link.invariant (holds_is g.net c.args.ratios.now (connection_at g.net k) (omega arith) (omega arith) _ is ∙ sym c.if-not-agree.ensures)

pub returns : goal.returns
returns g c =
    let long = ap length c.requires.table ∙ length-map g.net.connections (link_of g.net) in
    sym (list_all-from_AllPass (holds_on g.net (map ratio_of c.args.ratios.now)) g.net.connections
    (λ k d lt. rw (get_or_default g.net.connections k d no_connection lt) (c.loop-link.invariant k (omega arith))))
