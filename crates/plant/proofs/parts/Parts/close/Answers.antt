use Rattle.std.proofs.Common.{◌≡◌, true, Ok, Err, refl, sym, ◌∙◌}
use Rattle.std.proofs.lemmas.Result.{err_from_is_err_and}
use Rattle.std.specs.Arc.{arc_value}
use Rattle.flowgraph.specs.Flowgraph.{net_of}
use Rattle.plant_storage.specs.Stores.{state_of}
use Rattle.plant.specs.Answers.{source_type_of}
use Rattle.plant.proofs.Refusals.{source_there, close-refused}
use Rattle.plant.proofs.Moves.{counted, close_again, closes, handed_long, keeps_closed}
use Rattle.plant.proofs.Spans.{spans_handed}
use Rattle.plant.proofs.parts.Parts.close.Goals as goal

pub returns-in_err-source_type-clause-answered : goal.returns-in_err-source_type-clause-answered
returns-in_err-source_type-clause-answered g c =
    let p = err_from_is_err_and c.from_residual.result c.from_residual.ensures.1 in
    let net = net_of g.B.Block.meaning (arc_value c.args.self.now.graph) in
    let st = state_of c.args.self.now.stores.handed.items c.args.self.now.firings in
    let none : source_type_of net c.args.source.0 ≡ Err c.in_err-source_type.field-0.0 = rw (← c.deref-2.ensures) (sym c.source_type.ensures ∙ c.in_err-source_type.was) in
    let no = close-refused net st c.args.source.0 c.in_err-source_type.field-0.0 none in
    rw (p.1, p.2) (no.0, rw no.1 refl)

pub returns-then-tape-clause-answered : goal.returns-then-tape-clause-answered
returns-then-tape-clause-answered g c =
    let net = net_of g.B.Block.meaning (arc_value c.args.self.now.graph) in
    let there : source_type_of net c.args.source.0 ≡ Ok c.in_ok-source_type.field-0 = rw (← c.deref-2.ensures) (sym c.source_type.ensures ∙ c.in_ok-source_type.was) in
    let is = source_there net c.args.source.0 c.in_ok-source_type.field-0 there in
    let again = close_again net _ (rw (← c.deref.ensures) c.recall.ensures.runs) _ _ c.requires.keeps c.args.source.0 is.inside c.counts_of-tape.result (counted net _ (rw (← c.deref.ensures) c.recall.ensures.runs) _ _ c.requires.keeps c.args.source.0 is.inside c.index.result.now c.counts_of-tape.result c.index.ensures c.counts_of-tape.ensures) c.in_ok-source_type.field-0 is c.if-tape.true in
    rw again (refl, refl)

pub returns-clause-right : goal.returns-clause-right
returns-clause-right g c =
    let net = net_of g.B.Block.meaning (arc_value c.args.self.now.graph) in
    let there : source_type_of net c.args.source.0 ≡ Ok c.in_ok-source_type.field-0 = rw (← c.deref-2.ensures) (sym c.source_type.ensures ∙ c.in_ok-source_type.was) in
    let is = source_there net c.args.source.0 c.in_ok-source_type.field-0 there in
    record {
      keeps = keeps_closed net _ (rw (← c.deref.ensures) c.recall.ensures.runs) _ _ c.requires.keeps c.args.source.0 is.inside c.counts_of-tape.result (counted net _ (rw (← c.deref.ensures) c.recall.ensures.runs) _ _ c.requires.keeps c.args.source.0 is.inside c.index.result.now c.counts_of-tape.result c.index.ensures c.counts_of-tape.ensures) c.in_ok-source_type.field-0 is
          c.index_mut.result.now c.index_mut.ensures.value c.if-tape.false _ (record { handed = refl; words = refl; buffers = refl; sinks = refl; brought = refl });
      built = record { rates = c.requires.built.rates; capacities = c.requires.built.capacities; places = c.requires.built.places };
    }

pub returns-clause-answered : goal.returns-clause-answered
returns-clause-answered g c =
    let net = net_of g.B.Block.meaning (arc_value c.args.self.now.graph) in
    let there : source_type_of net c.args.source.0 ≡ Ok c.in_ok-source_type.field-0 = rw (← c.deref-2.ensures) (sym c.source_type.ensures ∙ c.in_ok-source_type.was) in
    let is = source_there net c.args.source.0 c.in_ok-source_type.field-0 there in
    let now = closes net _ (rw (← c.deref.ensures) c.recall.ensures.runs) _ _ c.requires.keeps c.args.source.0 is.inside c.counts_of-tape.result (counted net _ (rw (← c.deref.ensures) c.recall.ensures.runs) _ _ c.requires.keeps c.args.source.0 is.inside c.index.result.now c.counts_of-tape.result c.index.ensures c.counts_of-tape.ensures) c.in_ok-source_type.field-0 is
    c.index_mut.result.now c.index_mut.ensures.value c.if-tape.false in
    rw now (refl, refl)

pub returns-clause-spans : goal.returns-clause-spans
returns-clause-spans g c =
    let net = net_of g.B.Block.meaning (arc_value c.args.self.now.graph) in
    let there : source_type_of net c.args.source.0 ≡ Ok c.in_ok-source_type.field-0 = rw (← c.deref-2.ensures) (sym c.source_type.ensures ∙ c.in_ok-source_type.was) in
    let is = source_there net c.args.source.0 c.in_ok-source_type.field-0 there in
    let long = handed_long net _ (rw (← c.deref.ensures) c.recall.ensures.runs) _ _ c.requires.keeps in
    spans_handed c.args.self.now.stores c.args.source.0 c.index_mut.result.now (record c.index_mut.result.now { closed = true }) c.index_mut.ensures.value (rw long is.inside) refl refl refl refl
