use Rattle.std.proofs.Common.{◌≡◌, map, true, Ok, Err, refl, arith, ap, sym, ◌∙◌}
use Rattle.std.proofs.lemmas.Result.{err_from_is_err_and}
use Rattle.std.specs.Arc.{arc_value}
use Rattle.stream_model.specs.Numbers.{types_agree}
use Rattle.stream_model.proofs.Types.{types_agree-same}
use Rattle.stream_model.specs.Machine as machine
use Rattle.stream_model.specs.Network.{Handed, State}
use Rattle.plant_laws.specs.Stored as stored
use Rattle.items.specs.Items.{type_of, numbers_of}
use Rattle.flowgraph.specs.Flowgraph.{net_of}
use Rattle.plant_storage.specs.Stores.{mark_of, state_of}
use Rattle.plant.specs.Answers.{source_type_of, takes_memory}
use Rattle.plant.specs.Feeding.{length_with}
use Rattle.plant.proofs.Refusals.{source_there, feed-refused, feed-other_type, answered}
use Rattle.plant.proofs.Moves.{counted, handed_long, limited, tape_short, feed_stopped, feed_now, feeds, keeps_fed, keeps_same, state_same, item_is}
use Rattle.plant.proofs.Spans.{spans_handed}
use Rattle.plant.proofs.parts.Parts.feed.Goals as goal

pub returns-in_err-item-clause-answered : goal.returns-in_err-item-clause-answered
returns-in_err-item-clause-answered g c =
    let p = err_from_is_err_and c.from_residual.result c.from_residual.ensures.1 in
    let net = net_of g.B.Block.meaning (arc_value c.args.self.now.graph) in
    let none : source_type_of net c.args.source.0 ≡ Err c.in_err-item.field-0.0 = rw (← c.deref-2.ensures) (sym c.source_type.ensures ∙ c.in_err-item.was) in
    let no = feed-refused net (state_of c.args.self.now.stores.handed.items c.args.self.now.firings) c.args.source.0 (type_of c.args.items.now) (numbers_of c.args.items.now) (map mark_of c.args.marks.now) c.in_err-item.field-0.0 none in
    rw (p.1, p.2) (answered _ _ _ no.0 no.1)

pub returns-then-not-same_type-clause-answered : goal.returns-then-not-same_type-clause-answered
returns-then-not-same_type-clause-answered g c =
    let net = net_of g.B.Block.meaning (arc_value c.args.self.now.graph) in
    let there : source_type_of net c.args.source.0 ≡ Ok c.in_ok-item.item = rw (← c.deref-2.ensures) (sym c.source_type.ensures ∙ c.in_ok-item.was) in
    let is = source_there net c.args.source.0 c.in_ok-item.item there in
    let no = feed-other_type net (state_of c.args.self.now.stores.handed.items c.args.self.now.firings) c.args.source.0 c.in_ok-item.item is (type_of c.args.items.now) (numbers_of c.args.items.now) (map mark_of c.args.marks.now)
    (rw (← c.item_type.ensures) (sym c.same_type.ensures ∙ c.if-not-same_type.true)) in
    rw (no) (refl, refl)

pub length_with-requires : goal.length_with-requires
length_with-requires g c =
    let net = net_of g.B.Block.meaning (arc_value c.args.self.now.graph) in
    let there : source_type_of net c.args.source.0 ≡ Ok c.in_ok-item.item = rw (← c.deref-2.ensures) (sym c.source_type.ensures ∙ c.in_ok-item.was) in
    let is = source_there net c.args.source.0 c.in_ok-item.item there in
    let short = tape_short net _ (rw (← c.deref.ensures) c.recall.ensures.runs) _ _ c.requires.keeps c.args.source.0 is.inside c.counts_of.result (counted net _ (rw (← c.deref.ensures) c.recall.ensures.runs) _ _ c.requires.keeps c.args.source.0 is.inside c.index-intake.result.now c.counts_of.result c.index-intake.ensures c.counts_of.ensures) is.source in
    omega (arith, short, c.len.ensures.small)

pub returns-in_err-total-clause-answered : goal.returns-in_err-total-clause-answered
returns-in_err-total-clause-answered g c =
    let net = net_of g.B.Block.meaning (arc_value c.args.self.now.graph) in
    let there : source_type_of net c.args.source.0 ≡ Ok c.in_ok-item.item = rw (← c.deref-2.ensures) (sym c.source_type.ensures ∙ c.in_ok-item.was) in
    let is = source_there net c.args.source.0 c.in_ok-item.item there in
    let typed : types_agree (type_of c.args.items.now) c.in_ok-item.item ≡ true = rw (← c.item_type.ensures) (sym c.same_type.ensures ∙ c.if-not-same_type.false) in
    let p = err_from_is_err_and c.from_residual-in_err-total.result c.from_residual-in_err-total.ensures.1 in
    let no = feed_stopped net _ (rw (← c.deref.ensures) c.recall.ensures.runs) _ _ c.requires.keeps c.args.source.0 is.inside c.counts_of.result (counted net _ (rw (← c.deref.ensures) c.recall.ensures.runs) _ _ c.requires.keeps c.args.source.0 is.inside c.index-intake.result.now c.counts_of.result c.index-intake.ensures c.counts_of.ensures) c.in_ok-item.item is c.index-intake.result.now.longest (limited net _ (rw (← c.deref.ensures) c.recall.ensures.runs) _ _ c.requires.keeps c.args.source.0 is.inside c.index-intake.result.now c.index-intake.ensures) (type_of c.args.items.now) (numbers_of c.args.items.now) (map mark_of c.args.marks.now) typed c.in_err-total.field-0.0 (ap (λ n. length_with c.counts_of.result c.index-intake.result.now.longest n (map mark_of c.args.marks.now)) (sym c.len.ensures.value) ∙ sym c.length_with.ensures ∙ c.in_err-total.was) in
    rw (p.1, p.2) (answered _ _ _ no.0 no.1)

pub feed-requires : goal.feed-requires
feed-requires g c =
    let net = net_of g.B.Block.meaning (arc_value c.args.self.now.graph) in
    let there : source_type_of net c.args.source.0 ≡ Ok c.in_ok-item.item = rw (← c.deref-2.ensures) (sym c.source_type.ensures ∙ c.in_ok-item.was) in
    let is = source_there net c.args.source.0 c.in_ok-item.item there in
    let typed : types_agree (type_of c.args.items.now) c.in_ok-item.item ≡ true = rw (← c.item_type.ensures) (sym c.same_type.ensures ∙ c.if-not-same_type.false) in
    (types_agree-same (type_of c.args.items.now) c.in_ok-item.item).0 typed ∙ sym (item_is net _ (rw (← c.deref.ensures) c.recall.ensures.runs) _ _ c.requires.keeps c.args.source.0 is.inside c.index_mut.result.now c.in_ok-item.item c.index_mut.ensures.value is)

pub returns-in_err-feed-clause-right : goal.returns-in_err-feed-clause-right
returns-in_err-feed-clause-right g c =
    let net = net_of g.B.Block.meaning (arc_value c.args.self.now.graph) in
    let there : source_type_of net c.args.source.0 ≡ Ok c.in_ok-item.item = rw (← c.deref-2.ensures) (sym c.source_type.ensures ∙ c.in_ok-item.was) in
    let is = source_there net c.args.source.0 c.in_ok-item.item there in
    record {
      keeps = keeps_same net _ (rw (← c.deref.ensures) c.recall.ensures.runs) _ _ c.requires.keeps c.args.source.0 is.inside c.index_mut.result.now c.feed.new.self c.index_mut.ensures.value c.in_err-feed.ensures.err _ (record { handed = refl; words = refl; buffers = refl; sinks = refl; brought = refl });
      built = record { rates = c.requires.built.rates; capacities = c.requires.built.capacities; places = c.requires.built.places };
    }

pub returns-in_err-feed-clause-answered : goal.returns-in_err-feed-clause-answered
returns-in_err-feed-clause-answered g c =
    let net = net_of g.B.Block.meaning (arc_value c.args.self.now.graph) in
    let there : source_type_of net c.args.source.0 ≡ Ok c.in_ok-item.item = rw (← c.deref-2.ensures) (sym c.source_type.ensures ∙ c.in_ok-item.was) in
    let is = source_there net c.args.source.0 c.in_ok-item.item there in
    let typed : types_agree (type_of c.args.items.now) c.in_ok-item.item ≡ true = rw (← c.item_type.ensures) (sym c.same_type.ensures ∙ c.if-not-same_type.false) in
    let p = err_from_is_err_and c.from_residual-in_err-feed.result c.from_residual-in_err-feed.ensures.1 in
    let now = feed_now net _ (rw (← c.deref.ensures) c.recall.ensures.runs) _ _ c.requires.keeps c.args.source.0 is.inside c.counts_of.result (counted net _ (rw (← c.deref.ensures) c.recall.ensures.runs) _ _ c.requires.keeps c.args.source.0 is.inside c.index-intake.result.now c.counts_of.result c.index-intake.ensures c.counts_of.ensures) c.in_ok-item.item is c.index-intake.result.now.longest (limited net _ (rw (← c.deref.ensures) c.recall.ensures.runs) _ _ c.requires.keeps c.args.source.0 is.inside c.index-intake.result.now c.index-intake.ensures) (type_of c.args.items.now) (numbers_of c.args.items.now) (map mark_of c.args.marks.now) typed c.in_ok-total.total (ap (λ n. length_with c.counts_of.result c.index-intake.result.now.longest n (map mark_of c.args.marks.now)) (sym c.len.ensures.value) ∙ sym c.length_with.ensures ∙ c.in_ok-total.was) in
    let same = state_same net _ (rw (← c.deref.ensures) c.recall.ensures.runs) _ _ c.requires.keeps c.args.source.0 is.inside c.index_mut.result.now c.feed.new.self c.index_mut.ensures.value c.in_err-feed.ensures.err in
    rw (p.1, p.2, same) (ap (λ (x : machine.Reply × State). takes_memory x.0) now, refl)

pub returns-clause-right : goal.returns-clause-right
returns-clause-right g c =
    let net = net_of g.B.Block.meaning (arc_value c.args.self.now.graph) in
    let there : source_type_of net c.args.source.0 ≡ Ok c.in_ok-item.item = rw (← c.deref-2.ensures) (sym c.source_type.ensures ∙ c.in_ok-item.was) in
    let is = source_there net c.args.source.0 c.in_ok-item.item there in
    let typed : types_agree (type_of c.args.items.now) c.in_ok-item.item ≡ true = rw (← c.item_type.ensures) (sym c.same_type.ensures ∙ c.if-not-same_type.false) in
    record {
      keeps = keeps_fed net _ (rw (← c.deref.ensures) c.recall.ensures.runs) _ _ c.requires.keeps c.args.source.0 is.inside c.counts_of.result (counted net _ (rw (← c.deref.ensures) c.recall.ensures.runs) _ _ c.requires.keeps c.args.source.0 is.inside c.index-intake.result.now c.counts_of.result c.index-intake.ensures c.counts_of.ensures) c.in_ok-item.item is c.index-intake.result.now.longest (limited net _ (rw (← c.deref.ensures) c.recall.ensures.runs) _ _ c.requires.keeps c.args.source.0 is.inside c.index-intake.result.now c.index-intake.ensures) (type_of c.args.items.now) (numbers_of c.args.items.now) (map mark_of c.args.marks.now) typed c.in_ok-total.total (ap (λ n. length_with c.counts_of.result c.index-intake.result.now.longest n (map mark_of c.args.marks.now)) (sym c.len.ensures.value) ∙ sym c.length_with.ensures ∙ c.in_ok-total.was) c.index_mut.result.now c.feed.new.self c.index_mut.ensures.value c.in_ok-feed.ensures.ok _ (record { handed = refl; words = refl; buffers = refl; sinks = refl; brought = refl });
      built = record { rates = c.requires.built.rates; capacities = c.requires.built.capacities; places = c.requires.built.places };
    }

pub returns-clause-answered : goal.returns-clause-answered
returns-clause-answered g c =
    let net = net_of g.B.Block.meaning (arc_value c.args.self.now.graph) in
    let there : source_type_of net c.args.source.0 ≡ Ok c.in_ok-item.item = rw (← c.deref-2.ensures) (sym c.source_type.ensures ∙ c.in_ok-item.was) in
    let is = source_there net c.args.source.0 c.in_ok-item.item there in
    let typed : types_agree (type_of c.args.items.now) c.in_ok-item.item ≡ true = rw (← c.item_type.ensures) (sym c.same_type.ensures ∙ c.if-not-same_type.false) in
    let now = feeds net _ (rw (← c.deref.ensures) c.recall.ensures.runs) _ _ c.requires.keeps c.args.source.0 is.inside c.counts_of.result (counted net _ (rw (← c.deref.ensures) c.recall.ensures.runs) _ _ c.requires.keeps c.args.source.0 is.inside c.index-intake.result.now c.counts_of.result c.index-intake.ensures c.counts_of.ensures) c.in_ok-item.item is c.index-intake.result.now.longest (limited net _ (rw (← c.deref.ensures) c.recall.ensures.runs) _ _ c.requires.keeps c.args.source.0 is.inside c.index-intake.result.now c.index-intake.ensures) (type_of c.args.items.now) (numbers_of c.args.items.now) (map mark_of c.args.marks.now) typed c.in_ok-total.total (ap (λ n. length_with c.counts_of.result c.index-intake.result.now.longest n (map mark_of c.args.marks.now)) (sym c.len.ensures.value) ∙ sym c.length_with.ensures ∙ c.in_ok-total.was) c.index_mut.result.now c.feed.new.self c.index_mut.ensures.value c.in_ok-feed.ensures.ok in
    rw (now) (refl, refl)

pub returns-in_err-feed-clause-spans : goal.returns-in_err-feed-clause-spans
returns-in_err-feed-clause-spans g c =
    let net = net_of g.B.Block.meaning (arc_value c.args.self.now.graph) in
    let there : source_type_of net c.args.source.0 ≡ Ok c.in_ok-item.item = rw (← c.deref-2.ensures) (sym c.source_type.ensures ∙ c.in_ok-item.was) in
    let is = source_there net c.args.source.0 c.in_ok-item.item there in
    let long = handed_long net _ (rw (← c.deref.ensures) c.recall.ensures.runs) _ _ c.requires.keeps in
    let same = c.in_err-feed.ensures.err in
    spans_handed c.args.self.now.stores c.args.source.0 c.index_mut.result.now c.feed.new.self c.index_mut.ensures.value (rw long is.inside)
    (ap (λ (t : stored.Tape). t.from) same.tape) (ap stored.settings_from same.timeline) (ap (λ (h : Handed). h.longest) same.handed) same.own

pub returns-clause-spans : goal.returns-clause-spans
returns-clause-spans g c =
    let net = net_of g.B.Block.meaning (arc_value c.args.self.now.graph) in
    let there : source_type_of net c.args.source.0 ≡ Ok c.in_ok-item.item = rw (← c.deref-2.ensures) (sym c.source_type.ensures ∙ c.in_ok-item.was) in
    let is = source_there net c.args.source.0 c.in_ok-item.item there in
    let long = handed_long net _ (rw (← c.deref.ensures) c.recall.ensures.runs) _ _ c.requires.keeps in
    let fed = c.in_ok-feed.ensures.ok in
    spans_handed c.args.self.now.stores c.args.source.0 c.index_mut.result.now c.feed.new.self c.index_mut.ensures.value (rw long is.inside)
    (ap (λ (t : stored.Tape). t.from) fed.tape) (ap stored.settings_from fed.timeline) (ap (λ (h : Handed). h.longest) fed.handed) fed.own
