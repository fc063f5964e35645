use Rattle.std.proofs.Common.{◌+◌, map}
use Rattle.items.specs.Items.{numbers_of}
use Rattle.std.specs.Arc.{arc_value}
use Rattle.flowgraph.specs.Flowgraph.{net_of}
use Rattle.plant.specs.Plant.{plant_of}
use Rattle.plant.proofs.Committing.{can_commit, keeps_committed}
use Rattle.plant.proofs.Places.{work_here}
use Rattle.plant.proofs.Spans.{spans_delivered}
use Rattle.plant.proofs.parts.Parts.store.Goals as goal

pub deliver-requires : goal.deliver-requires
deliver-requires g c =
    let net = net_of g.B.Block.meaning (arc_value c.args.self.now.graph) in
    let work = work_here c.args.self.now.lent.items c.args.block.0 c.index-lent.result.now c.index-lent.ensures net (plant_of c.args.self.now).state c.args.word c.requires.work c.deref-3.result.now c.deref-4.result.now c.deref-3.ensures.value c.deref-4.ensures.value in
    rw (c.deref-2.ensures) (can_commit net _ _ _ c.requires.right.keeps c.args.block.0 c.args.first c.args.count c.requires.flight c.deref-3.result.now c.deref-4.result.now c.args.word work (arc_value c.args.self.now.graph).names
    (rw (← c.deref.ensures) c.recall.ensures.runs) (rw (← c.deref.ensures) c.recall.ensures.valid))

pub returns-clause-right : goal.returns-clause-right
returns-clause-right g c =
    let net = net_of g.B.Block.meaning (arc_value c.args.self.now.graph) in
    let work = work_here c.args.self.now.lent.items c.args.block.0 c.index-lent.result.now c.index-lent.ensures net (plant_of c.args.self.now).state c.args.word c.requires.work c.deref-3.result.now c.deref-4.result.now c.deref-3.ensures.value c.deref-4.ensures.value in
    record {
      keeps = keeps_committed net _ _ _ c.requires.right.keeps c.args.block.0 c.args.first c.args.count c.requires.flight c.deref-3.result.now c.deref-4.result.now c.args.word work
          (rw (← c.deref.ensures) c.recall.ensures.runs) _ _ (rw (← c.deref-2.ensures) c.deliver.ensures.stored) c.deliver.ensures.handed (rw (← c.deref-2.ensures) c.deliver.ensures.room) c.commit.ensures.progress;
      built = record { rates = c.requires.right.built.rates; capacities = c.requires.right.built.capacities; places = c.requires.right.built.places };
    }

pub returns-clause-spans : goal.returns-clause-spans
returns-clause-spans g c =
    spans_delivered (net_of g.B.Block.meaning (arc_value c.args.self.now.graph)) c.args.self.now.stores c.deliver.new.stores c.args.block.0 c.args.first (c.args.first + c.args.count) (map numbers_of c.deref-3.result.now) (map numbers_of c.deref-4.result.now) c.args.word
    (rw (← c.deref-2.ensures) c.deliver.ensures.stored) c.deliver.ensures.handed
