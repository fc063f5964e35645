use Rattle.std.proofs.Common.{◌≡◌, ◌≤◌, Option, Some, refl, arith, ap, sym, ◌∙◌}
use Rattle.std.proofs.lemmas.Result.{err_from_is_err_and}
use Rattle.std.specs.Arc.{arc_value}
use Rattle.std.specs.Option.{unwrap_or}
use Rattle.stream_model.specs.Network.{State}
use Rattle.stream_model.specs.Machine.{Reply, floor_of}
use Rattle.settings.specs.Values.{value_of}
use Rattle.flowgraph.specs.Flowgraph.{net_of}
use Rattle.plant_storage.specs.Stores.{state_of}
use Rattle.plant.specs.Setting.{fault_in}
use Rattle.plant.proofs.Refusals.{answered}
use Rattle.plant.proofs.Moves.{keeps_same, state_same}
use Rattle.plant.proofs.Sets.{taken_there, set-refused, set-late, input_there, takes, has_timeline, unread_there, has_place, refusal_sets_nothing, sets, keeps_set}
use Rattle.stream_model.specs.Network.{Handed}
use Rattle.plant_laws.specs.Stored as stored
use Rattle.plant.proofs.Spans.{spans_handed}
use Rattle.plant.proofs.Moves.{handed_long}
use Rattle.recordings.specs.Recent.{SettingsState}
use Rattle.stream_model.specs.Settings.{Held}
use Rattle.plant_storage.specs.Stores.{HasOneMore}
use Rattle.plant.proofs.parts.Parts.set.Goals as goal

unread_same : {h : Held} {old new : Option SettingsState} → HasOneMore h old new → stored.settings_from new ≡ stored.settings_from old
unread_same one = ap stored.settings_from one.has ∙ one.more.2 ∙ sym (ap stored.settings_from one.had)

pub returns-in_err-wanted-clause-answered : goal.returns-in_err-wanted-clause-answered
returns-in_err-wanted-clause-answered g c =
    let net = net_of g.B.Block.meaning (arc_value c.args.self.now.graph) in
    let p = err_from_is_err_and c.from_residual.result c.from_residual.ensures.1 in
    let no = set-refused net (state_of c.args.self.now.stores.handed.items c.args.self.now.firings) c.args.block.0 (value_of c.args.value) c.args.at c.in_err-wanted.field-0.0 (rw (← c.deref-2.ensures) (sym c.wanted.ensures ∙ ap fault_in c.in_err-wanted.was)) in
    rw (p.1, p.2) (answered _ _ _ no.0 no.1)

pub returns-in_err-wanted-clause-replaces : goal.returns-in_err-wanted-clause-replaces
returns-in_err-wanted-clause-replaces g c = λ place taken has.
    let net = net_of g.B.Block.meaning (arc_value c.args.self.now.graph) in
    let no = set-refused net (state_of c.args.self.now.stores.handed.items c.args.self.now.firings) c.args.block.0 (value_of c.args.value) c.args.at c.in_err-wanted.field-0.0 (rw (← c.deref-2.ensures) (sym c.wanted.ensures ∙ ap fault_in c.in_err-wanted.was)) in
    absurd (refusal_sets_nothing c.in_err-wanted.field-0.0 place (no.0 ∙ ap (λ (r : Reply). Some r) taken))

pub floor-floor-requires-clause-input : goal.floor-floor-requires-clause-input
floor-floor-requires-clause-input g c =
    let net = net_of g.B.Block.meaning (arc_value c.args.self.now.graph) in
    let is = taken_there net c.args.block.0 (value_of c.args.value) (rw (← c.deref-2.ensures) (sym c.wanted.ensures ∙ ap fault_in c.in_ok-wanted.was)) in
    input_there net (rw (← c.deref.ensures) c.recall.ensures.runs) c.args.block.0 (value_of c.args.value) is

pub returns-then-place-floor-clause-answered : goal.returns-then-place-floor-clause-answered
returns-then-place-floor-clause-answered g c =
    let net = net_of g.B.Block.meaning (arc_value c.args.self.now.graph) in
    let is = taken_there net c.args.block.0 (value_of c.args.value) (rw (← c.deref-2.ensures) (sym c.wanted.ensures ∙ ap fault_in c.in_ok-wanted.was)) in
    let floor_is : c.floor-floor.result ≡ floor_of net (state_of c.args.self.now.stores.handed.items c.args.self.now.firings) c.args.block.0 = c.floor-floor.ensures in
    let place_is : c.unwrap_or-place.result ≡ unwrap_or c.args.at (floor_of net (state_of c.args.self.now.stores.handed.items c.args.self.now.firings) c.args.block.0) = c.unwrap_or-place.ensures ∙ ap (unwrap_or c.args.at) floor_is in
    let no = set-late net (state_of c.args.self.now.stores.handed.items c.args.self.now.firings) c.args.block.0 (value_of c.args.value) is c.args.at c.unwrap_or-place.result place_is (omega (arith, floor_is, c.if-place-floor.true)) in
    rw (no, floor_is) (refl, refl)

pub returns-then-place-floor-clause-replaces : goal.returns-then-place-floor-clause-replaces
returns-then-place-floor-clause-replaces g c = λ place taken has.
    let net = net_of g.B.Block.meaning (arc_value c.args.self.now.graph) in
    let is = taken_there net c.args.block.0 (value_of c.args.value) (rw (← c.deref-2.ensures) (sym c.wanted.ensures ∙ ap fault_in c.in_ok-wanted.was)) in
    let floor_is : c.floor-floor.result ≡ floor_of net (state_of c.args.self.now.stores.handed.items c.args.self.now.firings) c.args.block.0 = c.floor-floor.ensures in
    let place_is : c.unwrap_or-place.result ≡ unwrap_or c.args.at (floor_of net (state_of c.args.self.now.stores.handed.items c.args.self.now.firings) c.args.block.0) = c.unwrap_or-place.ensures ∙ ap (unwrap_or c.args.at) floor_is in
    let no = set-late net (state_of c.args.self.now.stores.handed.items c.args.self.now.firings) c.args.block.0 (value_of c.args.value) is c.args.at c.unwrap_or-place.result place_is (omega (arith, floor_is, c.if-place-floor.true)) in
    let late = sym (ap (λ (now : Reply × State). now.0) no) ∙ taken in
    absurd (cc)

pub set-requires-clause-some : goal.set-requires-clause-some
set-requires-clause-some g c =
    let net = net_of g.B.Block.meaning (arc_value c.args.self.now.graph) in
    let is = taken_there net c.args.block.0 (value_of c.args.value) (rw (← c.deref-2.ensures) (sym c.wanted.ensures ∙ ap fault_in c.in_ok-wanted.was)) in
    let floor_is : c.floor-floor.result ≡ floor_of net (state_of c.args.self.now.stores.handed.items c.args.self.now.firings) c.args.block.0 = c.floor-floor.ensures in
    let place_is : c.unwrap_or-place.result ≡ unwrap_or c.args.at (floor_of net (state_of c.args.self.now.stores.handed.items c.args.self.now.firings) c.args.block.0) = c.unwrap_or-place.ensures ∙ ap (unwrap_or c.args.at) floor_is in
    let open' : floor_of net (state_of c.args.self.now.stores.handed.items c.args.self.now.firings) c.args.block.0 ≤ c.unwrap_or-place.result = omega (arith, floor_is, c.if-place-floor.false) in
    has_timeline net _ (rw (← c.deref.ensures) c.recall.ensures.runs) _ _ c.requires.keeps c.args.block.0 (value_of c.args.value) is c.args.at c.unwrap_or-place.result place_is open' c.index_mut.result.now c.index_mut.ensures.value

pub set-requires-clause-unread : goal.set-requires-clause-unread
set-requires-clause-unread g c =
    let net = net_of g.B.Block.meaning (arc_value c.args.self.now.graph) in
    let is = taken_there net c.args.block.0 (value_of c.args.value) (rw (← c.deref-2.ensures) (sym c.wanted.ensures ∙ ap fault_in c.in_ok-wanted.was)) in
    let floor_is : c.floor-floor.result ≡ floor_of net (state_of c.args.self.now.stores.handed.items c.args.self.now.firings) c.args.block.0 = c.floor-floor.ensures in
    let place_is : c.unwrap_or-place.result ≡ unwrap_or c.args.at (floor_of net (state_of c.args.self.now.stores.handed.items c.args.self.now.firings) c.args.block.0) = c.unwrap_or-place.ensures ∙ ap (unwrap_or c.args.at) floor_is in
    let open' : floor_of net (state_of c.args.self.now.stores.handed.items c.args.self.now.firings) c.args.block.0 ≤ c.unwrap_or-place.result = omega (arith, floor_is, c.if-place-floor.false) in
    unread_there net _ (rw (← c.deref.ensures) c.recall.ensures.runs) _ _ c.requires.keeps c.args.block.0 (value_of c.args.value) is c.args.at c.unwrap_or-place.result place_is open' c.index_mut.result.now c.index_mut.ensures.value

pub returns-in_err-set-clause-right : goal.returns-in_err-set-clause-right
returns-in_err-set-clause-right g c =
    let net = net_of g.B.Block.meaning (arc_value c.args.self.now.graph) in
    let is = taken_there net c.args.block.0 (value_of c.args.value) (rw (← c.deref-2.ensures) (sym c.wanted.ensures ∙ ap fault_in c.in_ok-wanted.was)) in
    record {
      keeps = keeps_same net _ (rw (← c.deref.ensures) c.recall.ensures.runs) _ _ c.requires.keeps c.args.block.0 is.inside c.index_mut.result.now c.set.new.self c.index_mut.ensures.value c.in_err-set.ensures.err _ (record { handed = refl; words = refl; buffers = refl; sinks = refl; brought = refl });
      built = record { rates = c.requires.built.rates; capacities = c.requires.built.capacities; places = c.requires.built.places };
    }

pub returns-in_err-set-clause-answered : goal.returns-in_err-set-clause-answered
returns-in_err-set-clause-answered g c =
    let net = net_of g.B.Block.meaning (arc_value c.args.self.now.graph) in
    let is = taken_there net c.args.block.0 (value_of c.args.value) (rw (← c.deref-2.ensures) (sym c.wanted.ensures ∙ ap fault_in c.in_ok-wanted.was)) in
    let floor_is : c.floor-floor.result ≡ floor_of net (state_of c.args.self.now.stores.handed.items c.args.self.now.firings) c.args.block.0 = c.floor-floor.ensures in
    let place_is : c.unwrap_or-place.result ≡ unwrap_or c.args.at (floor_of net (state_of c.args.self.now.stores.handed.items c.args.self.now.firings) c.args.block.0) = c.unwrap_or-place.ensures ∙ ap (unwrap_or c.args.at) floor_is in
    let open' : floor_of net (state_of c.args.self.now.stores.handed.items c.args.self.now.firings) c.args.block.0 ≤ c.unwrap_or-place.result = omega (arith, floor_is, c.if-place-floor.false) in
    let p = err_from_is_err_and c.from_residual-in_err-set.result c.from_residual-in_err-set.ensures.1 in
    let same = state_same net _ (rw (← c.deref.ensures) c.recall.ensures.runs) _ _ c.requires.keeps c.args.block.0 is.inside c.index_mut.result.now c.set.new.self c.index_mut.ensures.value c.in_err-set.ensures.err in
    rw (p.1, p.2, same) (takes net _ (rw (← c.deref.ensures) c.recall.ensures.runs) _ _ c.requires.keeps c.args.block.0 (value_of c.args.value) is c.args.at c.unwrap_or-place.result place_is open', refl)

pub returns-in_err-set-clause-replaces : goal.returns-in_err-set-clause-replaces
returns-in_err-set-clause-replaces g c = λ place taken has.
    let net = net_of g.B.Block.meaning (arc_value c.args.self.now.graph) in
    let is = taken_there net c.args.block.0 (value_of c.args.value) (rw (← c.deref-2.ensures) (sym c.wanted.ensures ∙ ap fault_in c.in_ok-wanted.was)) in
    let floor_is : c.floor-floor.result ≡ floor_of net (state_of c.args.self.now.stores.handed.items c.args.self.now.firings) c.args.block.0 = c.floor-floor.ensures in
    let place_is : c.unwrap_or-place.result ≡ unwrap_or c.args.at (floor_of net (state_of c.args.self.now.stores.handed.items c.args.self.now.firings) c.args.block.0) = c.unwrap_or-place.ensures ∙ ap (unwrap_or c.args.at) floor_is in
    let open' : floor_of net (state_of c.args.self.now.stores.handed.items c.args.self.now.firings) c.args.block.0 ≤ c.unwrap_or-place.result = omega (arith, floor_is, c.if-place-floor.false) in
    let there = has_place net _ (rw (← c.deref.ensures) c.recall.ensures.runs) _ _ c.requires.keeps c.args.block.0 (value_of c.args.value) is c.args.at c.unwrap_or-place.result place_is open' c.index_mut.result.now c.index_mut.ensures.value place taken has in
    let ok = c.in_err-set.ensures.replaces there in
    absurd (cc)

pub returns-clause-right : goal.returns-clause-right
returns-clause-right g c =
    let net = net_of g.B.Block.meaning (arc_value c.args.self.now.graph) in
    let is = taken_there net c.args.block.0 (value_of c.args.value) (rw (← c.deref-2.ensures) (sym c.wanted.ensures ∙ ap fault_in c.in_ok-wanted.was)) in
    let floor_is : c.floor-floor.result ≡ floor_of net (state_of c.args.self.now.stores.handed.items c.args.self.now.firings) c.args.block.0 = c.floor-floor.ensures in
    let place_is : c.unwrap_or-place.result ≡ unwrap_or c.args.at (floor_of net (state_of c.args.self.now.stores.handed.items c.args.self.now.firings) c.args.block.0) = c.unwrap_or-place.ensures ∙ ap (unwrap_or c.args.at) floor_is in
    let open' : floor_of net (state_of c.args.self.now.stores.handed.items c.args.self.now.firings) c.args.block.0 ≤ c.unwrap_or-place.result = omega (arith, floor_is, c.if-place-floor.false) in
    record {
      keeps = keeps_set net _ (rw (← c.deref.ensures) c.recall.ensures.runs) _ _ c.requires.keeps c.args.block.0 (value_of c.args.value) is c.args.at c.unwrap_or-place.result place_is open' c.index_mut.result.now c.index_mut.ensures.value c.set.new.self c.in_ok-set.ensures.ok _ (record { handed = refl; words = refl; buffers = refl; sinks = refl; brought = refl });
      built = record { rates = c.requires.built.rates; capacities = c.requires.built.capacities; places = c.requires.built.places };
    }

pub returns-clause-answered : goal.returns-clause-answered
returns-clause-answered g c =
    let net = net_of g.B.Block.meaning (arc_value c.args.self.now.graph) in
    let is = taken_there net c.args.block.0 (value_of c.args.value) (rw (← c.deref-2.ensures) (sym c.wanted.ensures ∙ ap fault_in c.in_ok-wanted.was)) in
    let floor_is : c.floor-floor.result ≡ floor_of net (state_of c.args.self.now.stores.handed.items c.args.self.now.firings) c.args.block.0 = c.floor-floor.ensures in
    let place_is : c.unwrap_or-place.result ≡ unwrap_or c.args.at (floor_of net (state_of c.args.self.now.stores.handed.items c.args.self.now.firings) c.args.block.0) = c.unwrap_or-place.ensures ∙ ap (unwrap_or c.args.at) floor_is in
    let open' : floor_of net (state_of c.args.self.now.stores.handed.items c.args.self.now.firings) c.args.block.0 ≤ c.unwrap_or-place.result = omega (arith, floor_is, c.if-place-floor.false) in
    let now = sets net _ (rw (← c.deref.ensures) c.recall.ensures.runs) _ _ c.requires.keeps c.args.block.0 (value_of c.args.value) is c.args.at c.unwrap_or-place.result place_is open' c.index_mut.result.now c.index_mut.ensures.value c.set.new.self c.in_ok-set.ensures.ok in
    rw now (refl, refl)

pub returns-in_err-set-clause-spans : goal.returns-in_err-set-clause-spans
returns-in_err-set-clause-spans g c =
    let net = net_of g.B.Block.meaning (arc_value c.args.self.now.graph) in
    let is = taken_there net c.args.block.0 (value_of c.args.value) (rw (← c.deref-2.ensures) (sym c.wanted.ensures ∙ ap fault_in c.in_ok-wanted.was)) in
    let long = handed_long net _ (rw (← c.deref.ensures) c.recall.ensures.runs) _ _ c.requires.keeps in
    let same = c.in_err-set.ensures.err in
    spans_handed c.args.self.now.stores c.args.block.0 c.index_mut.result.now c.set.new.self c.index_mut.ensures.value (rw long is.inside)
    (ap (λ (t : stored.Tape). t.from) same.tape) (ap stored.settings_from same.timeline) (ap (λ (h : Handed). h.longest) same.handed) same.own

pub returns-clause-spans : goal.returns-clause-spans
returns-clause-spans g c =
    let net = net_of g.B.Block.meaning (arc_value c.args.self.now.graph) in
    let is = taken_there net c.args.block.0 (value_of c.args.value) (rw (← c.deref-2.ensures) (sym c.wanted.ensures ∙ ap fault_in c.in_ok-wanted.was)) in
    let long = handed_long net _ (rw (← c.deref.ensures) c.recall.ensures.runs) _ _ c.requires.keeps in
    let set = c.in_ok-set.ensures.ok in
    spans_handed c.args.self.now.stores c.args.block.0 c.index_mut.result.now c.set.new.self c.index_mut.ensures.value (rw long is.inside)
    (ap (λ (t : stored.Tape). t.from) set.tape) (unread_same set.timeline) (ap (λ (h : Handed). h.longest) set.handed) set.own
