use Rattle.std.proofs.Common.{◌≡◌, map, Ok, Err, refl, arith, ap, sym, ◌∙◌, subst}
use Rattle.std.proofs.lemmas.Result.{err_from_is_err_and}
use Rattle.std.specs.Arc.{arc_value}
use Rattle.stream_model.proofs.Types.{types_agree-same}
use Rattle.stream_model.specs.Network.{State}
use Rattle.stream_model.specs.Machine as machine
use Rattle.stream_model.specs.Machine.{feed_of, Reply}
use Rattle.items.specs.Items.{type_of, numbers_of}
use Rattle.flowgraph.specs.Flowgraph.{net_of}
use Rattle.plant_storage.specs.Stores.{mark_of, state_of}
use Rattle.plant.specs.Plant.{plant_of}
use Rattle.plant.specs.Answers.{Answered, reply_of, source_type_of, takes_memory}
use Rattle.plant.proofs.Refusals.{source_there, answered}
use Rattle.plant.proofs.Feeding.{numbers-refused, numbers-in_range, numbers-out_of_range}
use Rattle.plant.proofs.Moves.{counted, limited, tape_short, feed_stopped, feed_now}
use Rattle.plant.proofs.parts.Parts.feed_numbers.Goals as goal

pub returns-in_err-item-clause-answered : goal.returns-in_err-item-clause-answered
returns-in_err-item-clause-answered g c =
    let p = err_from_is_err_and c.from_residual.result c.from_residual.ensures.1 in
    let net = net_of g.B.Block.meaning (arc_value c.args.self.now.graph) in
    let st = state_of c.args.self.now.stores.handed.items c.args.self.now.firings in
    let none : source_type_of net c.args.source.0 ≡ Err c.in_err-item.field-0.0 = rw (← c.deref-2.ensures) (sym c.source_type.ensures ∙ c.in_err-item.was) in
    let no = numbers-refused net st c.args.source.0 c.args.numbers.now (map mark_of c.args.marks.now) c.in_err-item.field-0.0 none in
    rw (p.1, p.2) (answered _ _ _ no.0 no.1)

pub returns-in-Err-ItemRange-clause-answered : goal.returns-in-Err-ItemRange-clause-answered
returns-in-Err-ItemRange-clause-answered g c =
    let net = net_of g.B.Block.meaning (arc_value c.args.self.now.graph) in
    let st = state_of c.args.self.now.stores.handed.items c.args.self.now.firings in
    let there : source_type_of net c.args.source.0 ≡ Ok c.in_ok-item.item = rw (← c.deref-2.ensures) (sym c.source_type.ensures ∙ c.in_ok-item.was) in
    let is = source_there net c.args.source.0 c.in_ok-item.item there in
    let no = numbers-out_of_range net st c.args.source.0 c.args.numbers.now (map mark_of c.args.marks.now) c.in_ok-item.item is (c.in-Err-ItemRange.ensures.range.0 (ap Err c.in-Err-ItemRange.field-0-is)) in
    rw no (refl, refl)

pub returns-in-Ok-clause-answered : goal.returns-in-Ok-clause-answered
returns-in-Ok-clause-answered g c =
    let net = net_of g.B.Block.meaning (arc_value c.args.self.now.graph) in
    let st = state_of c.args.self.now.stores.handed.items c.args.self.now.firings in
    let there : source_type_of net c.args.source.0 ≡ Ok c.in_ok-item.item = rw (← c.deref-2.ensures) (sym c.source_type.ensures ∙ c.in_ok-item.was) in
    let is = source_there net c.args.source.0 c.in_ok-item.item there in
    let same = numbers-in_range net st c.args.source.0 c.args.numbers.now (map mark_of c.args.marks.now) c.in_ok-item.item is c.in-Ok.ensures.in_range in
    let items : feed_of net st c.args.source.0 (type_of c.in-Ok.items) (numbers_of c.in-Ok.items) (map mark_of c.args.marks.now) ≡ feed_of net st c.args.source.0 c.in_ok-item.item c.args.numbers.now (map mark_of c.args.marks.now) =
    ap (λ u. feed_of net st c.args.source.0 u (numbers_of c.in-Ok.items) (map mark_of c.args.marks.now)) c.in-Ok.ensures.item_type
    ∙ ap (λ xs. feed_of net st c.args.source.0 c.in_ok-item.item xs (map mark_of c.args.marks.now)) c.in-Ok.ensures.numbers in
    subst (λ (now : Reply × State). Answered now (plant_of c.args.self.now) (plant_of c.feed.new.self) (reply_of (λ f. machine.Fed f.0) c.feed.result)) (items ∙ sym same) c.feed.ensures.answered

pub length_with-requires : goal.length_with-requires
length_with-requires g c =
    let net = net_of g.B.Block.meaning (arc_value c.args.self.now.graph) in
    let there : source_type_of net c.args.source.0 ≡ Ok c.in_ok-item.item = rw (← c.deref-2.ensures) (sym c.source_type.ensures ∙ c.in_ok-item.was) in
    let is = source_there net c.args.source.0 c.in_ok-item.item there in
    let short = tape_short net _ (rw (← c.deref.ensures) c.recall.ensures.runs) _ _ c.requires.keeps c.args.source.0 is.inside c.counts_of.result (counted net _ (rw (← c.deref.ensures) c.recall.ensures.runs) _ _ c.requires.keeps c.args.source.0 is.inside c.index-intake.result.now c.counts_of.result c.index-intake.ensures c.counts_of.ensures) is.source in
    omega (arith, short)

pub returns-in_err-length_with-in-Err-Memory-clause-answered : goal.returns-in_err-length_with-in-Err-Memory-clause-answered
returns-in_err-length_with-in-Err-Memory-clause-answered g c =
    let p = err_from_is_err_and c.from_residual-in_err-length_with-in-Err-Memory.result c.from_residual-in_err-length_with-in-Err-Memory.ensures.1 in
    let net = net_of g.B.Block.meaning (arc_value c.args.self.now.graph) in
    let st = state_of c.args.self.now.stores.handed.items c.args.self.now.firings in
    let there : source_type_of net c.args.source.0 ≡ Ok c.in_ok-item.item = rw (← c.deref-2.ensures) (sym c.source_type.ensures ∙ c.in_ok-item.was) in
    let is = source_there net c.args.source.0 c.in_ok-item.item there in
    let same = numbers-in_range net st c.args.source.0 c.args.numbers.now (map mark_of c.args.marks.now) c.in_ok-item.item is (c.in-Err-Memory.ensures.memory (ap Err c.in-Err-Memory.field-0-is)) in
    let no = feed_stopped net _ (rw (← c.deref.ensures) c.recall.ensures.runs) _ _ c.requires.keeps c.args.source.0 is.inside c.counts_of.result (counted net _ (rw (← c.deref.ensures) c.recall.ensures.runs) _ _ c.requires.keeps c.args.source.0 is.inside c.index-intake.result.now c.counts_of.result c.index-intake.ensures c.counts_of.ensures) c.in_ok-item.item is c.index-intake.result.now.longest (limited net _ (rw (← c.deref.ensures) c.recall.ensures.runs) _ _ c.requires.keeps c.args.source.0 is.inside c.index-intake.result.now c.index-intake.ensures) c.in_ok-item.item c.args.numbers.now (map mark_of c.args.marks.now) ((types_agree-same c.in_ok-item.item c.in_ok-item.item).1 refl) c.in_err-length_with-in-Err-Memory.field-0.0 (sym c.length_with.ensures ∙ c.in_err-length_with-in-Err-Memory.was) in
    rw (p.1, p.2, same) (answered _ _ _ no.0 no.1)

pub returns-in_ok-length_with-in-Err-Memory-clause-answered : goal.returns-in_ok-length_with-in-Err-Memory-clause-answered
returns-in_ok-length_with-in-Err-Memory-clause-answered g c =
    let net = net_of g.B.Block.meaning (arc_value c.args.self.now.graph) in
    let st = state_of c.args.self.now.stores.handed.items c.args.self.now.firings in
    let there : source_type_of net c.args.source.0 ≡ Ok c.in_ok-item.item = rw (← c.deref-2.ensures) (sym c.source_type.ensures ∙ c.in_ok-item.was) in
    let is = source_there net c.args.source.0 c.in_ok-item.item there in
    let same = numbers-in_range net st c.args.source.0 c.args.numbers.now (map mark_of c.args.marks.now) c.in_ok-item.item is (c.in-Err-Memory.ensures.memory (ap Err c.in-Err-Memory.field-0-is)) in
    let now = feed_now net _ (rw (← c.deref.ensures) c.recall.ensures.runs) _ _ c.requires.keeps c.args.source.0 is.inside c.counts_of.result (counted net _ (rw (← c.deref.ensures) c.recall.ensures.runs) _ _ c.requires.keeps c.args.source.0 is.inside c.index-intake.result.now c.counts_of.result c.index-intake.ensures c.counts_of.ensures) c.in_ok-item.item is c.index-intake.result.now.longest (limited net _ (rw (← c.deref.ensures) c.recall.ensures.runs) _ _ c.requires.keeps c.args.source.0 is.inside c.index-intake.result.now c.index-intake.ensures) c.in_ok-item.item c.args.numbers.now (map mark_of c.args.marks.now) ((types_agree-same c.in_ok-item.item c.in_ok-item.item).1 refl) _ (sym c.length_with.ensures ∙ c.in_ok-length_with-in-Err-Memory.was) in
    (ap (λ (x : Reply × State). takes_memory x.0) (same ∙ now), refl)
