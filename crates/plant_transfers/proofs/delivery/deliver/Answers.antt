use Rattle.std.proofs.Common.{◌≡◌, List, map, set, arith, ap, ◌∙◌}
use Rattle.std.specs.Vec.{with_items}
use Rattle.std.proofs.lemmas.List.{with_items_is}
use Rattle.flowgraph.specs.Flowgraph.{net_of}
use Rattle.recordings.specs.Recording.{RecordingState}
use Rattle.plant_storage.specs.Stores.{collected_of, stored_in}
use Rattle.plant_transfers.specs.declared.firing_range.FiringRange.{FiringRange}
use Rattle.plant_transfers.proofs.States.{Row, outputs}
use Rattle.plant_transfers.proofs.Delivering as delivering
use Rattle.plant_transfers.proofs.delivery.deliver.Given.{Over}
use Rattle.plant_transfers.proofs.delivery.deliver.Goals.{After-give_all, After-take, After-collect, After-deref_mut-3}
use Rattle.plant_transfers.proofs.delivery.deliver.Goals as goal

-- the buffers are what was made of them, and so are the sinks
given_is : (g : Over) (c : After-give_all g) → (with_items c.args.stores.now.buffers c.give_all.new.buffers).items ≡ c.give_all.new.buffers
given_is g c = with_items_is c.args.stores.now.buffers c.give_all.new.buffers (c.give_all.auto.buffers ∙ c.deref_mut-2.ensures.len)

taken_is : (g : Over) (c : After-take g) → (with_items (with_items c.args.stores.now.buffers c.give_all.new.buffers) c.take.new.buffers).items ≡ c.take.new.buffers
taken_is g c = with_items_is (with_items c.args.stores.now.buffers c.give_all.new.buffers) c.take.new.buffers (c.take.auto.buffers ∙ c.deref_mut-3.ensures.len)

sinks_are : (g : Over) (c : After-collect g) → (with_items c.args.stores.now.sinks c.collect.new.sinks).items ≡ c.collect.new.sinks
sinks_are g c = with_items_is c.args.stores.now.sinks c.collect.new.sinks (c.collect.auto.sinks ∙ c.deref_mut.ensures.len)

-- the outputs as they are taken from
given_here : (g : Over) (c : After-deref_mut-3 g) → outputs c.deref_mut-3.result.now ≡ outputs c.give_all.new.buffers
given_here g c = ap (λ (vs : List Row). outputs vs) (c.deref_mut-3.ensures.value ∙ given_is g (goal.at.After-deref_mut-3 g c).After-give_all)

pub give_all-requires : goal.give_all-requires
give_all-requires g c =
    delivering.gives_at (net_of g.B.Block.meaning c.args.graph.now) c.args.stores.now c.args.block c.args.first c.args.count c.args.windows.now c.args.outputs.now c.requires c.new-firings.result c.new-firings.ensures
    c.deref-2.result.now c.deref_mut-2.result.now c.deref-2.ensures.value c.deref_mut-2.ensures.value

pub take-requires : goal.take-requires
take-requires g c =
    delivering.takes_at (net_of g.B.Block.meaning c.args.graph.now) c.args.stores.now c.args.block c.args.first c.args.count c.args.windows.now c.args.outputs.now c.requires c.new-firings.result c.new-firings.ensures
    (outputs c.deref_mut-3.result.now)
    (given_here g (goal.at.take-requires g c).After-deref_mut-3
    ∙ delivering.given_at (net_of g.B.Block.meaning c.args.graph.now) c.args.stores.now c.args.block c.args.first c.args.count c.args.windows.now c.args.outputs.now c.requires c.new-firings.result c.new-firings.ensures
    c.deref-2.result.now c.deref_mut-2.result.now c.give_all.new.buffers c.deref-2.ensures.value c.deref_mut-2.ensures.value c.give_all.ensures.outputs)

pub returns-clause-stored : goal.returns-clause-stored
returns-clause-stored g c =
    let at = goal.at.returns-clause-stored g c in
    let here = given_here g at.After-deref_mut-3
    ∙ delivering.given_at (net_of g.B.Block.meaning c.args.graph.now) c.args.stores.now c.args.block c.args.first c.args.count c.args.windows.now c.args.outputs.now c.requires c.new-firings.result c.new-firings.ensures
    c.deref-2.result.now c.deref_mut-2.result.now c.give_all.new.buffers c.deref-2.ensures.value c.deref_mut-2.ensures.value c.give_all.ensures.outputs in
    let buffers = ap (λ (vs : List Row). outputs vs) (taken_is g at.After-take)
    ∙ delivering.taken_at (net_of g.B.Block.meaning c.args.graph.now) c.args.stores.now c.args.block c.args.first c.args.count c.args.windows.now c.args.outputs.now c.requires c.new-firings.result c.new-firings.ensures
    (outputs c.deref_mut-3.result.now) (outputs c.take.new.buffers) here c.take.ensures.outputs in
    let sinks = ap (λ (ss : List RecordingState). map collected_of ss) (sinks_are g at.After-collect)
    ∙ delivering.kept_at (net_of g.B.Block.meaning c.args.graph.now) c.args.stores.now c.args.block c.args.first c.args.count c.args.windows.now c.args.outputs.now c.requires c.new-firings.result c.new-firings.ensures
    c.deref.result.now c.deref_mut.result.now c.collect.new.sinks c.deref.ensures.value c.deref_mut.ensures.value c.collect.ensures.sinks in
    λ i. record {
      tapes = (stored_in c.args.stores.now).tapes;
      timelines = (stored_in c.args.stores.now).timelines;
      words = set c.args.stores.now.words.items c.args.block.0 c.args.word;
      buffers = buffers i;
      sinks = sinks i;
    }

pub returns-clause-room : goal.returns-clause-room
returns-clause-room g c =
    let at = goal.at.returns-clause-room g c in
    let block = ap (λ (f : FiringRange). f.block.0) c.new-firings.ensures in
    record {
      buffers = λ a p ne. delivering.room_at c.args.stores.now.buffers.items c.deref_mut-2.result.now c.give_all.new.buffers c.deref_mut-3.result.now c.take.new.buffers
          (with_items (with_items c.args.stores.now.buffers c.give_all.new.buffers) c.take.new.buffers).items a p
          c.deref_mut-2.ensures.value (c.give_all.ensures.others a p (λ e. ne (e ∙ block))) (c.deref_mut-3.ensures.value ∙ given_is g at.After-give_all) (c.take.ensures.room a p) (taken_is g at.After-take);
      brought = omega (arith, c.give_all.ensures.capacity);
      sinks = λ a ne. delivering.sink_room_at c.args.stores.now.sinks.items c.deref_mut.result.now c.collect.new.sinks (with_items c.args.stores.now.sinks c.collect.new.sinks).items a
          c.deref_mut.ensures.value (c.collect.ensures.others a (λ e. ne (e ∙ block))) (sinks_are g at.After-collect);
    }
