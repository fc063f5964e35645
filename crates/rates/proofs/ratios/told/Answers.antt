use Rattle.std.proofs.Common.{◌<◌, length, arith, sym, ◌∙◌, ap, below_more}
use Rattle.std.proofs.lemmas.List.{length-map}
use Rattle.stream_model.specs.Network.{no_connection}
use Rattle.graph_model.specs.Rates.{told_by}
use Rattle.rates.specs.Tables.{link_of, known_of, connection_at}
use Rattle.rates.proofs.Facts.{link_is, table_fits}
use Rattle.rates.proofs.Telling.{first_at, first_none, times_told, tells_to, tells_from, tells_none, tells_nothing}
use Rattle.rates.proofs.ratios.told.Goals as goal
use Rattle.rates.proofs.ratios.told.Goals.{in-Some-Some, in-None-None}

pub offset_bounds-known-link : goal.offset_bounds-known-link
offset_bounds-known-link g c =
    let fits = table_fits g.net c.requires.rates c.args.links.now c.requires.table c.loop-link.link-index c.loop-link-test.true in
    let from = fits.from in
    omega arith

pub bounds-known-link : goal.bounds-known-link
bounds-known-link g c =
    let fits = table_fits g.net c.requires.rates c.args.links.now c.requires.table c.loop-link.link-index c.loop-link-test.true in
    let from = fits.from in
    omega arith

pub offset_bounds-known-link-in-loop-link : goal.offset_bounds-known-link-in-loop-link
offset_bounds-known-link-in-loop-link g c =
    let fits = table_fits g.net c.requires.rates c.args.links.now c.requires.table c.loop-link.link-index c.loop-link-test.true in
    let to = fits.to in
    omega arith

pub bounds-known-link-in-loop-link : goal.bounds-known-link-in-loop-link
bounds-known-link-in-loop-link g c =
    let fits = table_fits g.net c.requires.rates c.args.links.now c.requires.table c.loop-link.link-index c.loop-link-test.true in
    let to = fits.to in
    omega arith

pub times-requires-clause-factors : goal.times-requires-clause-factors
times-requires-clause-factors g c =
    let fits = table_fits g.net c.requires.rates c.args.links.now c.requires.table c.loop-link.link-index c.loop-link-test.true in
    (fits.gives_some, fits.gives_few, fits.takes_few)

pub times-requires-in-None-Some-clause-factors : goal.times-requires-in-None-Some-clause-factors
times-requires-in-None-Some-clause-factors g c =
    let fits = table_fits g.net c.requires.rates c.args.links.now c.requires.table c.loop-link.link-index c.loop-link-test.true in
    (fits.takes_some, fits.takes_few, fits.gives_few)

pub returns-in-Some-None-clause-first : goal.returns-in-Some-None-clause-first
returns-in-Some-None-clause-first g c =
    let k = c.loop-link.link-index in
    let long = ap length c.requires.table ∙ length-map g.net.connections (link_of g.net) in
    let inside : k < length g.net.connections = omega arith in
    sym (first_at (told_by g.net (known_of c.args.known.now)) no_connection g.net.connections k _ c.loop-link.invariant inside
    (tells_to g.net c.args.known.now (connection_at g.net k) _ (link_is g.net c.requires.rates c.args.links.now c.requires.table k c.loop-link-test.true) c.in-Some-None.f c.times.result c.in-Some-None.is-0 c.in-Some-None.is-1 c.times.ensures))

pub returns-in-Some-None-clause-fits : goal.returns-in-Some-None-clause-fits
returns-in-Some-None-clause-fits g c =
    let fits = table_fits g.net c.requires.rates c.args.links.now c.requires.table c.loop-link.link-index c.loop-link-test.true in
    let t = times_told (length g.net.nodes) c.in-Some-None.f c.times.result _ _ (c.requires.small _ _ c.in-Some-None.is-0) fits.gives_some fits.takes_some c.times.ensures in
    (fits.to, t.0, t.1, t.2)

pub returns-in-None-Some-clause-first : goal.returns-in-None-Some-clause-first
returns-in-None-Some-clause-first g c =
    let k = c.loop-link.link-index in
    let long = ap length c.requires.table ∙ length-map g.net.connections (link_of g.net) in
    let inside : k < length g.net.connections = omega arith in
    sym (first_at (told_by g.net (known_of c.args.known.now)) no_connection g.net.connections k _ c.loop-link.invariant inside
    (tells_from g.net c.args.known.now (connection_at g.net k) _ (link_is g.net c.requires.rates c.args.links.now c.requires.table k c.loop-link-test.true) c.in-None-Some.f c.times-in-None-Some.result c.in-None-Some.is-0 c.in-None-Some.is-1 c.times-in-None-Some.ensures))

pub returns-in-None-Some-clause-fits : goal.returns-in-None-Some-clause-fits
returns-in-None-Some-clause-fits g c =
    let fits = table_fits g.net c.requires.rates c.args.links.now c.requires.table c.loop-link.link-index c.loop-link-test.true in
    let t = times_told (length g.net.nodes) c.in-None-Some.f c.times-in-None-Some.result _ _ (c.requires.small _ _ c.in-None-Some.is-1) fits.takes_some fits.gives_some c.times-in-None-Some.ensures in
    (fits.from, t.0, t.1, t.2)

pub loop-link-preserved : goal.loop-link-preserved
loop-link-preserved g c =
    let is = link_is g.net c.requires.rates c.args.links.now c.requires.table c.loop-link.link-index c.loop-link-test.true in
    below_more _ _ c.loop-link.invariant
    (elim c.match-known-link.branch [
      | in-Some-Some w ↦ tells_none g.net c.args.known.now (connection_at g.net c.loop-link.link-index) _ is w.in-Some-Some._f w.in-Some-Some._g w.in-Some-Some.is-0 w.in-Some-Some.is-1
      | in-None-None w ↦ tells_nothing g.net c.args.known.now (connection_at g.net c.loop-link.link-index) _ is w.in-None-None.is-0 w.in-None-None.is-1
    ])

pub returns-clause-first : goal.returns-clause-first
returns-clause-first g c =
    let long = ap length c.requires.table ∙ length-map g.net.connections (link_of g.net) in
    sym (first_none (told_by g.net (known_of c.args.known.now)) no_connection g.net.connections (λ i lt. c.loop-link.invariant i (omega arith)))
