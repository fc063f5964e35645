use Rattle.std.proofs.Common.{◌≡◌, ◌++◌, ℕ, ℤ, List, [], ap, sym, ◌∙◌, subst, take}
use Rattle.std.proofs.lemmas.Result.{err_from_is_err_and}
use Rattle.flowgraph.specs.Flowgraph.{net_of}
use Rattle.stream_model.specs.Network.{Network}
use Rattle.stream_model.specs.Machine.{Fed, feed_of}
use Rattle.kinds.specs.declared.kind.Kind.{Kind}
use Rattle.kinds.specs.Kind.{meaning_of}
use Rattle.plant.specs.Plant.{PlantState}
use Rattle.raw_items.specs.Values.{items_of}
use Rattle.flow_core.specs.declared.raw_fault.EndPlace.TheVariants.{Input}
use Rattle.flow_core.specs.Session.{in_state}
use Rattle.flow_core.specs.RawFeeds.{IsOfEnd, IsRefusedFor}
use Rattle.items.specs.Items.{type_of, numbers_of}
use Rattle.flow_core.proofs.FedBytes.{stops_at_once, refused_at_once, source_given, no_memory, refused_more, feeding_more}
use Rattle.flow_core.proofs.raw_input.feed_from.Goals as goal

pub returns-in_err-item_type-clause-stops : goal.returns-in_err-item_type-clause-stops
returns-in_err-item_type-clause-stops g c =
    let p = err_from_is_err_and c.from_residual.result c.from_residual.ensures.1 in
    rw (p.1, p.2)
    (stops_at_once (net_of meaning_of c.args.plant.now.graph) c.args.plant.now.state c.args.source.0 c.args.order c.args.number (g.I.ByteIn.remaining c.args.input.now) c.in_err-item_type.field-0.0 c.in_err-item_type.ensures.refused)

pub returns-in_err-put_on-clause-stops : goal.returns-in_err-put_on-clause-stops
returns-in_err-put_on-clause-stops g c =
    let p = err_from_is_err_and c.from_residual-in_err-put_on.result c.from_residual-in_err-put_on.ensures.1 in
    let net = net_of meaning_of c.args.plant.now.graph in
    rw (p.1, p.2)
    (refused_at_once net c.args.plant.now.state c.args.source.0 c.args.order c.args.number (g.I.ByteIn.remaining c.args.input.now) c.in_err-put_on.field-0.0 (type_of c.empty-items.result) (numbers_of c.empty-items.result)
    (c.empty-items.ensures.item_type ∙ sym (source_given net c.args.source.0 c.in_ok-item_type.item_type c.in_ok-item_type.ensures.ok)) c.empty-items.ensures.numbers c.in_err-put_on.ensures.refused)

pub returns-in_err-push-clause-stops : goal.returns-in_err-push-clause-stops
returns-in_err-push-clause-stops g c =
    let p = err_from_is_err_and c.from_residual-in_err-push.result c.from_residual-in_err-push.ensures.1 in
    rw (p.1, p.2)
    (no_memory (net_of meaning_of c.args.plant.now.graph) c.args.plant.now.state c.args.source.0 c.args.order (g.I.ByteIn.remaining c.args.input.now) c.recall.ensures.sound.handed_count
    c.loop-pieces.plant.state (g.I.ByteIn.remaining c.loop-pieces.input) c.loop-pieces.decoder c.loop-pieces.invariant.feeding c.args.number (g.I.ByteIn.remaining c.read.new.self) (take c.in-Ok.read c.read.new.buffer) c.in-Ok.ensures.bytes.0)

pub returns-in_err-put_on-2-clause-stops : goal.returns-in_err-put_on-2-clause-stops
returns-in_err-put_on-2-clause-stops g c =
    let p = err_from_is_err_and c.from_residual-in_err-put_on-2.result c.from_residual-in_err-put_on-2.ensures.1 in
    let net = net_of meaning_of c.args.plant.now.graph in
    let same : net_of meaning_of c.loop-pieces.plant.graph ≡ net = ap (λ (x : PlantState Kind). net_of meaning_of x.graph) c.loop-pieces.invariant.same in
    let fault = c.in_err-put_on-2.field-0.0 in
    let ys = numbers_of c.push.new.out in
    rw (p.1, p.2)
    (refused_more net c.args.plant.now.state c.args.source.0 c.args.order (g.I.ByteIn.remaining c.args.input.now) c.recall.ensures.sound.handed_count
    c.loop-pieces.plant.state (g.I.ByteIn.remaining c.loop-pieces.input) c.loop-pieces.decoder c.loop-pieces.invariant.feeding (g.I.ByteIn.remaining c.read.new.self) (take c.in-Ok.read c.read.new.buffer)
    c.push.new.self (type_of c.push.new.out) ys c.in-Ok.ensures.bytes.0 c.in_ok-push.ensures.layout (c.in_ok-push.ensures.item_type ∙ c.loop-pieces.invariant.typed ∙ sym c.loop-pieces.invariant.feeding.typed)
    (c.in_ok-push.ensures.items ∙ ap (λ (zs : List ℤ). zs ++ items_of c.loop-pieces.decoder.item_type c.loop-pieces.decoder.order (c.loop-pieces.decoder.cut ++ take c.in-Ok.read c.read.new.buffer)) c.loop-pieces.invariant.none)
    c.in_ok-push.ensures.cut c.args.number fault
    (subst (λ (n : Network). IsOfEnd (Input c.args.number) (IsRefusedFor (feed_of n c.loop-pieces.plant.state c.args.source.0 (type_of c.push.new.out) ys []).0) fault) same c.in_err-put_on-2.ensures.refused))

pub loop-pieces-preserved : goal.loop-pieces-preserved
loop-pieces-preserved g c =
    let net = net_of meaning_of c.args.plant.now.graph in
    let same : net_of meaning_of c.loop-pieces.plant.graph ≡ net = ap (λ (x : PlantState Kind). net_of meaning_of x.graph) c.loop-pieces.invariant.same in
    let ys = numbers_of c.push.new.out in
    let last = c.put_on-in-loop-pieces.new.plant.state in
    let typed = c.in_ok-push.ensures.item_type ∙ c.loop-pieces.invariant.typed in
    record {
      failed = c.in-Ok.ensures.counted ∙ c.loop-pieces.invariant.failed;
      same = c.in_ok-put_on-2.ensures.same ∙ ap (λ (x : PlantState Kind). in_state x last) c.loop-pieces.invariant.same;
      idle = λ h. c.in_ok-put_on-2.ensures.idle (c.loop-pieces.invariant.idle h);
      feeding =
          feeding_more net c.args.plant.now.state c.args.source.0 c.args.order (g.I.ByteIn.remaining c.args.input.now) c.recall.ensures.sound.handed_count
          c.loop-pieces.plant.state (g.I.ByteIn.remaining c.loop-pieces.input) c.loop-pieces.decoder c.loop-pieces.invariant.feeding (g.I.ByteIn.remaining c.read.new.self) (take c.in-Ok.read c.read.new.buffer)
          c.push.new.self (type_of c.push.new.out) ys c.in-Ok.ensures.bytes.0 c.in_ok-push.ensures.layout (typed ∙ sym c.loop-pieces.invariant.feeding.typed)
          (c.in_ok-push.ensures.items ∙ ap (λ (zs : List ℤ). zs ++ items_of c.loop-pieces.decoder.item_type c.loop-pieces.decoder.order (c.loop-pieces.decoder.cut ++ take c.in-Ok.read c.read.new.buffer)) c.loop-pieces.invariant.none)
          c.in_ok-push.ensures.cut last
          (subst (λ (n : Network). (total : ℕ) × (feed_of n c.loop-pieces.plant.state c.args.source.0 (type_of c.push.new.out) ys [] ≡ (Fed total, last))) same c.in_ok-put_on-2.ensures.fed);
      typed = c.clear.ensures.item_type ∙ typed;
      none = c.clear.ensures.numbers;
    }
